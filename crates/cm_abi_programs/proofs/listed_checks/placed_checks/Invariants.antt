use Rattle.std.proofs.Common.{◌≡◌, drop}
use Rattle.cm_abi_programs.specs.Checks.{both_checks}
use Rattle.cm_abi_programs.specs.Coded.{check_lists, checks_in}
use Rattle.cm_abi_programs.specs.PlacedFields.{checks_placed}
use Rattle.cm_abi_programs.proofs.listed_checks.placed_checks.Given as goal

-- with those of the fields to come, these are all
abbrev pub invariant-loop-index : goal.invariant-loop-index
invariant-loop-index l =
    both_checks (checks_in l.all.items) (checks_placed (drop l.index l.offsets) (check_lists (drop l.index l.lists))) ≡ checks_placed l.offsets (check_lists l.lists)
