use Rattle.std.proofs.Common.{◌≡◌, take}
use Rattle.cm_layout.specs.Flattening.{copies}
use Rattle.cm_layout_placed.proofs.kinds.copied_kinds.Given as goal

abbrev pub invariant-loop-copy : goal.invariant-loop-copy
invariant-loop-copy l = l.all.items ≡ take 16 (copies l._copy l.element)
