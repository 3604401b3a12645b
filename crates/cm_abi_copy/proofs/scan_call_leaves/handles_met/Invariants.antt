use Rattle.std.proofs.Common.{◌≡◌, ◌≤◌, ◌++◌, drop, length, vec_capacity}
use Rattle.cm_abi_load.specs.Meeting.{AreAsWanted}
use Rattle.cm_abi_model.specs.HandleLeaves.{leaves_of}
use Rattle.cm_abi_copy.specs.MetLeaves.{leaves_found}
use Rattle.cm_abi_copy.proofs.scan_call_leaves.handles_met.Given as goal

-- the handles so far, and those of what is left, are all; what is left is as wanted, and there is room for it
abbrev pub invariant-loop-handle : goal.invariant-loop-handle
invariant-loop-handle l =
    (leaves_of l.leaves.items ++ leaves_found l.table.handles (drop l.handle-index l.met) ≡ leaves_found l.table.handles l.met)
    × AreAsWanted l.table.handles (drop l.handle-index l.met)
    × (length l.leaves.items ≡ l.handle-index)
    × (length l.met ≤ vec_capacity l.leaves)
