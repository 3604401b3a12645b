use Rattle.std.proofs.Common.{◌≡◌, ◌+◌, ◌≤◌, Ok, length, take}
use Rattle.cm_handles.specs.Handles.{Handles}
use Rattle.cm_abi_lift.specs.HandingOver.{hand_over, hands_of, untouched}
use Rattle.cm_abi_lift.proofs.handing.Handed.take_back.Given as goal

-- what is still handed over is what the first of them came to
abbrev pub invariant-loop-left : goal.invariant-loop-left
invariant-loop-left l =
    (l.left ≤ length l.met)
    × ((before : Handles) → hand_over (untouched before) l.met ≡ Ok (hands_of l.initial.table.handles l.initial.self) → hand_over (untouched before) (take l.left l.met) ≡ Ok (hands_of l.table.handles l.self))
    × (l.table.room + length l.initial.self.owns.items ≡ l.initial.table.room + length l.self.owns.items)

abbrev pub decreases-loop-left : goal.decreases-loop-left
decreases-loop-left l = l.left
