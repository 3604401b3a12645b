use Rattle.std.proofs.Common.{◌++◌, map, drop, length}
use Rattle.cm_wit_reading.specs.Views.{interface_item_tree}
use Rattle.cm_wit_names.specs.FileMentions.{interface_item_marks}
use Rattle.cm_wit_names.specs.Marks.{each}
use Rattle.cm_wit_names.specs.MentionViews.{mention_view}
use Rattle.cm_wit_names.proofs.AddLaws.{MakesAll}
use Rattle.cm_wit_names.proofs.interface_mentions.add_items.Given as goal

abbrev pub invariant-loop-item : goal.invariant-loop-item
invariant-loop-item l = MakesAll (each (interface_item_marks l.scope.number) (map interface_item_tree (drop l.item-index l.items))) l.out (map mention_view l.fn.out.items ++ each (interface_item_marks l.scope.number) (map interface_item_tree l.items) (length l.fn.out.items))
