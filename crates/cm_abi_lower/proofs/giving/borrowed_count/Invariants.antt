use Rattle.std.proofs.Common.{◌≡◌, ◌+◌, ◌≤◌, drop}
use Rattle.cm_abi_model.specs.Giving.{borrowed_count}
use Rattle.cm_abi_model.specs.HandleLeaves.{leaves_of}
use Rattle.cm_abi_lower.proofs.giving.borrowed_count.Given as goal

-- those counted and those left are all of them
abbrev pub invariant-loop-leaf : goal.invariant-loop-leaf
invariant-loop-leaf l =
    (l.count ≤ l.leaf-index)
    × (l.count + borrowed_count l.to (leaves_of (drop l.leaf-index l.leaves)) ≡ borrowed_count l.to (leaves_of l.leaves))
