use Rattle.std.proofs.Common.{◌≡◌, refl}
use Rattle.std.specs.Global.{Vec}
use Rattle.cm_wit_reading.specs.declared.file.FileItem.{FileItem}
use Rattle.cm_wit_reading.specs.declared.file.FileItem.TheVariants as item_is
use Rattle.cm_wit_reading.specs.declared.interfaces.Interface.{Interface}
use Rattle.cm_wit_reading.specs.declared.worlds.World.{World}
use Rattle.cm_wit_reading.specs.Trees.{File}
use Rattle.cm_wit_reading.specs.Views.{file_item_tree, file_tree, interface_tree, world_tree}
use Rattle.cm_wit_names.specs.declared.mention.Mention.{Mention}
use Rattle.cm_wit_names.specs.FileMentions.{file_item_marks, interface_marks, world_marks}
use Rattle.cm_wit_names.specs.MentionViews.{Adds}
use Rattle.cm_wit_names.proofs.AddLaws.{each_end, each_step}
use Rattle.cm_wit_names.proofs.file_mentions.add_items.Goals.{in-Interface+in_ok-add_interface-in-Interface, in-World+in_ok-add_world-in-World}
use Rattle.cm_wit_names.proofs.file_mentions.add_items.Goals as goal

interface_added : (f : File) (x : FileItem) (i : Interface) (before after out : Vec Mention) → x ≡ item_is.Interface i → out ≡ after → Adds (interface_marks (interface_tree i)) before after → Adds (file_item_marks f (file_item_tree x)) before out
interface_added f x i before after out is same p = rw (is, same) p

world_added : (f : File) (x : FileItem) (w : World) (before after out : Vec Mention) → x ≡ item_is.World w → out ≡ after → Adds (world_marks f (world_tree w)) before after → Adds (file_item_marks f (file_item_tree x)) before out
world_added f x w before after out is same p = rw (is, same) p

pub loop-item-init : goal.loop-item-init
loop-item-init c = refl

pub loop-item-preserved : goal.loop-item-preserved
loop-item-preserved c =
    let f = file_tree c.args.file.now in
    let x = c.item-item.result in
    let p : Adds (file_item_marks f (file_item_tree x)) c.loop-item.out c.match-item.out = elim c.match-item.branch [
      | in-Interface+in_ok-add_interface-in-Interface w ↦ interface_added f x _ c.loop-item.out w.add_interface.new.out c.match-item.out w.in-Interface.is w.out-is w.in_ok-add_interface-in-Interface.ensures
      | in-World+in_ok-add_world-in-World w ↦ world_added f x _ c.loop-item.out w.add_world.new.out c.match-item.out w.in-World.is w.out-is w.in_ok-add_world-in-World.ensures
    ] in
    each_step (file_item_marks f) file_item_tree c.args.items.now c.loop-item.item-index x c.loop-item.out c.match-item.out _ c.loop-item-test.true c.item-item.is p c.loop-item.invariant

pub returns : goal.returns
returns c = each_end (file_item_marks (file_tree c.args.file.now)) file_item_tree c.args.items.now c.loop-item.item-index c.loop-item.out _ c.loop-item-test.false c.loop-item.invariant
