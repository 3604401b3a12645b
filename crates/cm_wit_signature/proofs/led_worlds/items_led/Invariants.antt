use Rattle.std.specs.List.{list_all}
use Rattle.cm_names.specs.Listed.{listed}
use Rattle.cm_wit_reading.specs.Views.{world_item_tree}
use Rattle.cm_wit_signature.specs.Tests as test
use Rattle.cm_wit_signature.proofs.RestLaws.{Rests}
use Rattle.cm_wit_signature.proofs.led_worlds.items_led.Given as goal

abbrev pub invariant-loop-item : goal.invariant-loop-item
invariant-loop-item l = Rests world_item_tree (λ i es. list_all (test.item_led (listed l.names.keys.now) l.names.marks.now l.names.list) es) l.items l.item-index
