use Rattle.std.proofs.Common.{◌≤◌, drop, length, vec_capacity}
use Rattle.cm_abi_model.specs.Giving.{added_count}
use Rattle.cm_abi_model.specs.HandleLeaves.{leaves_of}
use Rattle.cm_abi_lower.proofs.GivingLemmas.{SoFar}
use Rattle.cm_abi_lower.proofs.giving.give_each.Given as goal

-- the first are given, and there is room for those that are left
abbrev pub invariant-loop-leaf : goal.invariant-loop-leaf
invariant-loop-leaf l =
    SoFar l.to l.initial.table.handles l.leaves l.table.handles l.numbers.items l.leaf-index
    × (added_count l.to (leaves_of (drop l.leaf-index l.leaves)) ≤ l.table.room)
    × (length l.leaves ≤ vec_capacity l.numbers)
