use Rattle.std.proofs.Common.{[]}
use Rattle.cm_wit_reading.specs.Views.{world_item_tree}
use Rattle.cm_wit_worlds.specs.InterfaceViews.{files_of}
use Rattle.cm_wit_worlds.specs.Externs.{exports_from}
use Rattle.cm_wit_worlds.proofs.ListLaws.{Ends}
use Rattle.cm_wit_worlds.proofs.externs.written_exports.Given as goal

abbrev pub invariant-loop-index : goal.invariant-loop-index
invariant-loop-index l = Ends world_item_tree (exports_from (files_of l.directory.files.items) l.place l.count) l.items l.index [] l.out.items
