use Rattle.std.proofs.Common.{◌≡◌, length, drop}
use Rattle.cm_types_arena.specs.SameTypes.{same_labels}
use Rattle.cm_types_arena.proofs.same_types.same_labels.Given as goal

-- what is left decides
abbrev pub invariant-loop-i : goal.invariant-loop-i
invariant-loop-i l = (length l.a ≡ length l.b) × (same_labels (drop l.i l.a) (drop l.i l.b) ≡ same_labels l.a l.b)
