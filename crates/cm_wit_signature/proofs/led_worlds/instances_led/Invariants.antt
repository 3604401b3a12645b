use Rattle.std.proofs.Common.{map}
use Rattle.cm_names.specs.Listed.{listed}
use Rattle.cm_wit_worlds.specs.InterfaceViews.{placed_interface}
use Rattle.cm_wit_tables.specs.DeclaredViews.{instance_view}
use Rattle.cm_wit_signature.specs.Tests as test
use Rattle.cm_wit_signature.proofs.RestLaws.{Rests}
use Rattle.cm_wit_signature.proofs.led_worlds.instances_led.Given as goal

abbrev pub invariant-loop-list : goal.invariant-loop-list
invariant-loop-list l = Rests instance_view (λ i xs. test.instances_led (map placed_interface l.interfaces) (listed l.keys) l.marks i xs) l.instances l.list
