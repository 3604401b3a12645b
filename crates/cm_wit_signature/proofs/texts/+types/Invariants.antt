use Rattle.cm_names.specs.Listed.{listed}
use Rattle.cm_wit_reading.specs.Types.{types_from}
use Rattle.cm_wit_reading.specs.TypeViews.{type_tree}
use Rattle.cm_wit_signature.specs.Tests as test
use Rattle.cm_wit_signature.proofs.RestLaws.{Rests}
use Rattle.cm_wit_signature.proofs.texts.+types.Given as goal

abbrev pub invariant-types_led-loop-ty : goal.invariant-types_led-loop-ty
invariant-types_led-loop-ty l = Rests type_tree (λ i ts. test.types_led (listed l.names.keys.now) l.names.marks.now l.names.list (types_from ts)) l.types l.ty-index
