use Rattle.std.proofs.Common.{map}
use Rattle.cm_names.specs.Listed.{listed}
use Rattle.cm_wit_tables.specs.DeclaredViews.{declaration_view}
use Rattle.cm_wit_tables.specs.Leading.{uses_by}
use Rattle.cm_wit_tables.proofs.MapLaws.{Makes}
use Rattle.cm_wit_tables.proofs.rows.use_rows.Given as goal

abbrev pub invariant-loop-declaration : goal.invariant-loop-declaration
invariant-loop-declaration l = Makes declaration_view (λ i. map (uses_by (listed l.keys))) l.declarations l.declaration-index (map (λ r. r.items) l.rows.items)
