use Rattle.std.proofs.Common.{◌++◌, map, drop, length}
use Rattle.cm_wit_reading.specs.Views.{file_tree, world_item_tree}
use Rattle.cm_wit_names.specs.FileMentions.{world_item_marks}
use Rattle.cm_wit_names.specs.Marks.{each}
use Rattle.cm_wit_names.specs.MentionViews.{mention_view}
use Rattle.cm_wit_names.proofs.AddLaws.{MakesAll}
use Rattle.cm_wit_names.proofs.world_mentions.add_items.Given as goal

abbrev pub invariant-loop-item : goal.invariant-loop-item
invariant-loop-item l = MakesAll (each (world_item_marks (file_tree l.file) l.scope.number) (map world_item_tree (drop l.item-index l.items))) l.out (map mention_view l.fn.out.items ++ each (world_item_marks (file_tree l.file) l.scope.number) (map world_item_tree l.items) (length l.fn.out.items))
