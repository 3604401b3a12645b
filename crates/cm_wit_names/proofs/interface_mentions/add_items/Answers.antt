use Rattle.std.proofs.Common.{refl}
use Rattle.cm_wit_reading.specs.Views.{interface_item_tree}
use Rattle.cm_wit_names.specs.FileMentions.{interface_item_marks}
use Rattle.cm_wit_names.proofs.AddLaws.{each_end, each_step}
use Rattle.cm_wit_names.proofs.interface_mentions.add_items.Goals as goal

pub loop-item-init : goal.loop-item-init
loop-item-init c = refl

pub loop-item-preserved : goal.loop-item-preserved
loop-item-preserved c = each_step (interface_item_marks c.args.scope.number) interface_item_tree c.args.items.now c.loop-item.item-index c.item-item.result c.loop-item.out c.add_item.new.out _ c.loop-item-test.true c.item-item.is c.in_ok-add_item.ensures c.loop-item.invariant

pub returns : goal.returns
returns c = each_end (interface_item_marks c.args.scope.number) interface_item_tree c.args.items.now c.loop-item.item-index c.loop-item.out _ c.loop-item-test.false c.loop-item.invariant
