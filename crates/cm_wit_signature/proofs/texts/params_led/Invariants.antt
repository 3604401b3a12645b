use Rattle.cm_names.specs.Listed.{listed}
use Rattle.cm_wit_reading.specs.SignatureViews.{typed_tree}
use Rattle.cm_wit_signature.specs.Tests as test
use Rattle.cm_wit_signature.proofs.RestLaws.{Rests}
use Rattle.cm_wit_signature.proofs.texts.params_led.Given as goal

abbrev pub invariant-loop-param : goal.invariant-loop-param
invariant-loop-param l = Rests typed_tree (λ i ps. test.params_led (listed l.names.keys.now) l.names.marks.now l.names.list ps) l.params l.param-index
