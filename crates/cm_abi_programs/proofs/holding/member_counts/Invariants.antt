use Rattle.std.proofs.Common.{◌≡◌, ◌+◌, drop}
use Rattle.cm_abi_programs.specs.Held.{items_of}
use Rattle.cm_abi_programs.specs.PlacedFields.{member_counts}
use Rattle.cm_abi_programs.proofs.holding.member_counts.Given as goal

-- with those of the fields to come, these are all
abbrev pub invariant-loop-list : goal.invariant-loop-list
invariant-loop-list g l = l.count + member_counts (items_of (drop l.list-index l.lists)) ≡ member_counts (items_of l.lists)
