use Rattle.cm_wit_tables.specs.DeclaredViews.{declaration_view}
use Rattle.cm_wit_tables.proofs.IdLaws.{Numbered}
use Rattle.cm_wit_tables.proofs.resources.resource_ids.Given as goal

abbrev pub invariant-loop-declaration : goal.invariant-loop-declaration
invariant-loop-declaration l = Numbered declaration_view l.declarations l.declaration-index l.number l.ids.items
