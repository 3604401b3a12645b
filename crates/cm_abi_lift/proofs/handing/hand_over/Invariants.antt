use Rattle.std.proofs.Common.{◌≡◌, ◌+◌, ◌^◌, Ok, length, take}
use Rattle.cm_abi_model.specs.Lifts.{LendsBelow}
use Rattle.cm_abi_lift.specs.HandingOver.{hand_over, hands_of, untouched}
use Rattle.cm_abi_lift.proofs.handing.hand_over.Given as goal

-- the first of them are handed over
abbrev pub invariant-loop-i : goal.invariant-loop-i
invariant-loop-i l =
    (hand_over (untouched l.initial.table.handles) (take l.i l.met) ≡ Ok (hands_of l.table.handles l.handed))
    × LendsBelow (2 ^ 100 + l.i) l.table.handles
    × (l.table.room ≡ l.initial.table.room + length l.handed.owns.items)
