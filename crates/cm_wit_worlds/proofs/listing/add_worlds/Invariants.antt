use Rattle.cm_wit_reading.specs.Views.{file_tree, file_item_tree}
use Rattle.cm_wit_worlds.specs.Interfaces.{world_in}
use Rattle.cm_wit_worlds.specs.InterfaceViews.{placed_world}
use Rattle.cm_wit_worlds.proofs.ListingLaws.{Finds}
use Rattle.cm_wit_worlds.proofs.listing.add_worlds.Given as goal

abbrev pub invariant-loop-item : goal.invariant-loop-item
invariant-loop-item l = Finds file_item_tree (world_in l.place (file_tree l.file)) placed_world l.file.items.items l.item-index l.fn.out.items l.out.items
