use Rattle.std.proofs.Common.{[], map}
use Rattle.cm_wit_worlds.specs.InterfaceViews.{files_of}
use Rattle.cm_wit_tables.specs.Worlds.{declarations_from}
use Rattle.cm_wit_tables.specs.DeclaredViews.{declaration_view, instance_view}
use Rattle.cm_wit_tables.proofs.world_declarations.declarations_of.Given as goal
use Rattle.cm_lemmas.proofs.Lists.{Makes}

abbrev pub invariant-loop-list : goal.invariant-loop-list
invariant-loop-list l = Makes instance_view (declarations_from (files_of l.directory.files.items) (map instance_view l.instances)) declaration_view l.instances l.list [] l.out.items
