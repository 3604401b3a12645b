use Rattle.std.proofs.Common.{◌≡◌, length}
use Rattle.cm_match_serving.specs.Knowing.{AreUnknown}
use Rattle.cm_match_serving.proofs.tables.unknown.Given as goal

abbrev pub invariant-loop-component : goal.invariant-loop-component
invariant-loop-component l = (length l.known.items ≡ l._component) × AreUnknown l.known.items
