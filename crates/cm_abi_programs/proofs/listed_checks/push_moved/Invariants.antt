use Rattle.std.proofs.Common.{◌≡◌, drop}
use Rattle.cm_abi_programs.specs.Checks.{both_checks, moved_checks}
use Rattle.cm_abi_programs.specs.Coded.{checks_in}
use Rattle.cm_abi_programs.proofs.listed_checks.push_moved.Given as goal

-- with the checks to come, these are all
abbrev pub invariant-loop-check : goal.invariant-loop-check
invariant-loop-check l =
    both_checks (checks_in l.all.items) (moved_checks l.by (checks_in (drop l.check-index l.checks)))
    ≡ both_checks (checks_in l.initial.all.items) (moved_checks l.by (checks_in l.checks))
