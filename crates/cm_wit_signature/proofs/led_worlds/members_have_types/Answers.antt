use Rattle.std.proofs.Common.{Bool, List, map, length, ap, ◌∙◌}
use Rattle.std.specs.List.{list_all}
use Rattle.cm_names.specs.Listed.{listed}
use Rattle.cm_wit_reading.specs.declared.worlds.WorldItem as code_item
use Rattle.cm_wit_reading.specs.Views.{world_item_tree}
use Rattle.cm_wit_worlds.specs.InterfaceViews.{placed_interface, placed_world}
use Rattle.cm_wit_tables.specs.DeclaredViews.{declaration_view, instance_view}
use Rattle.cm_wit_signature.specs.Tests as test
use Rattle.cm_wit_signature.proofs.LedLaws.{typed_by}
use Rattle.cm_wit_signature.proofs.led_worlds.members_have_types.Goals as goal

pub returns : goal.returns
returns c = λ fs e.
    let keys = listed c.in_ok-keys.keys in
    let all = map placed_interface c.args.interfaces.now in
    let xs = map instance_view c.args.instances.now in
    let own = length c.args.instances.now in
    let marks = c.in_ok-marks.marks.items in
    let q = c.in_ok-instances_led.ensures ∙ ap (λ (ms : List Bool). test.instances_led all keys ms 0 xs) c.deref.ensures.value in
    let r = c.items_led-items_led.ensures ∙ (ap (λ (ms : List Bool). list_all (test.item_led keys ms own) (map world_item_tree c.deref-3.result.now)) c.deref-2.ensures.value ∙ ap (λ (its : List code_item.WorldItem). list_all (test.item_led keys marks own) (map world_item_tree its)) c.deref-3.ensures.value) in
    typed_by (map declaration_view c.args.declarations.now) marks c.in_ok-marks.ensures.marked fs all e (placed_world c.args.world.now) own xs keys c.both.result c.in_ok-instances_led.instances_led c.items_led-items_led.result c.in_ok-keys.ensures c.both.ensures q r
