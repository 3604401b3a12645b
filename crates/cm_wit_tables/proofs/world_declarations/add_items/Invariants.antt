use Rattle.std.specs.List.{flat_map}
use Rattle.cm_wit_reading.specs.Views.{interface_item_tree}
use Rattle.cm_wit_worlds.specs.InterfaceViews.{files_of}
use Rattle.cm_wit_tables.specs.Worlds.{item_declarations}
use Rattle.cm_wit_tables.specs.DeclaredViews.{declaration_view}
use Rattle.cm_wit_tables.specs.Placings.{instances_in}
use Rattle.cm_wit_tables.proofs.world_declarations.add_items.Given as goal
use Rattle.cm_lemmas.proofs.Lists.{Makes}

abbrev pub invariant-loop-item : goal.invariant-loop-item
invariant-loop-item l = Makes interface_item_tree (λ i. flat_map (item_declarations (files_of l.directory.files.items) (instances_in l.placing) l.spot.exported l.spot.list l.spot.place)) declaration_view l.items l.item-index l.initial.out.items l.out.items
