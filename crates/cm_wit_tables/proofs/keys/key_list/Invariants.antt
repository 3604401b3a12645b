use Rattle.std.proofs.Common.{map}
use Rattle.cm_names.specs.Keys.{key_view}
use Rattle.cm_wit_tables.specs.Declarations.{key_of}
use Rattle.cm_wit_tables.specs.DeclaredViews.{declaration_view}
use Rattle.cm_wit_tables.proofs.MapLaws.{Makes}
use Rattle.cm_wit_tables.proofs.keys.key_list.Given as goal

abbrev pub invariant-loop-declaration : goal.invariant-loop-declaration
invariant-loop-declaration l = Makes declaration_view (λ i. map key_of) l.declarations l.declaration-index (map key_view l.keys.items)
