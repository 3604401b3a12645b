use Rattle.std.proofs.Common.{map}
use Rattle.cm_wit_tables.specs.Tables.{declares_resource}
use Rattle.cm_wit_tables.specs.DeclaredViews.{declaration_view}
use Rattle.cm_wit_tables.proofs.MapLaws.{Makes}
use Rattle.cm_wit_tables.proofs.resources.own_marks.Given as goal

abbrev pub invariant-loop-declaration : goal.invariant-loop-declaration
invariant-loop-declaration l = Makes declaration_view (λ i. map declares_resource) l.declarations l.declaration-index l.marks.items
