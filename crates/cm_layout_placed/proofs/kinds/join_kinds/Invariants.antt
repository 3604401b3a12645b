use Rattle.std.proofs.Common.{◌≡◌, take}
use Rattle.cm_layout.specs.Flattening.{join_slots}
use Rattle.cm_layout_placed.proofs.kinds.join_kinds.Given as goal

abbrev pub invariant-loop-at : goal.invariant-loop-at
invariant-loop-at l = l.kinds.items ≡ join_slots l.fn.kinds.items (take l.at l.more)
