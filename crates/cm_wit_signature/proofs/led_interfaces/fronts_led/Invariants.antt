use Rattle.std.proofs.Common.{◌≡◌, map, take}
use Rattle.cm_names.specs.Listed.{listed}
use Rattle.cm_wit_signature.specs.Tests as test
use Rattle.cm_wit_signature.proofs.led_interfaces.fronts_led.Given as goal

abbrev pub invariant-loop-front : goal.invariant-loop-front
invariant-loop-front l = l.out.items ≡ map (test.front_led (listed l.names.keys.now) l.names.marks.now l.names.list) (take l.front-index l.fronts)
