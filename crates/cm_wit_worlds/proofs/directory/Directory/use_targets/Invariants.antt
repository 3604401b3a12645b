use Rattle.std.proofs.Common.{map}
use Rattle.std.specs.List.{filter_map}
use Rattle.cm_wit_reading.specs.Views.{interface_item_tree}
use Rattle.cm_wit_worlds.specs.Interfaces.{target, use_path}
use Rattle.cm_wit_worlds.specs.InterfaceViews.{files_of}
use Rattle.cm_wit_worlds.proofs.KeyingLaws.{Ends}
use Rattle.cm_wit_worlds.proofs.directory.Directory.use_targets.Given as goal

abbrev pub invariant-loop-item : goal.invariant-loop-item
invariant-loop-item l = Ends interface_item_tree (λ is. map (target (files_of l.self.files.items) l.placed.place) (filter_map use_path is)) l.placed.interface.now.items.items l.item-index l.targets.items
