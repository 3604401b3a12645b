use Rattle.std.proofs.Common.{map, arith, refl}
use Rattle.cm_names.specs.Listed.{listed}
use Rattle.cm_wit_tables.specs.DeclaredViews.{declaration_view}
use Rattle.cm_wit_tables.specs.Leading.{uses_by}
use Rattle.cm_wit_tables.proofs.MapLaws.{makes_all}
use Rattle.cm_wit_tables.proofs.RowLaws.{rows_are}
use Rattle.cm_wit_tables.proofs.rows.use_rows.Goals as goal

pub returns-clause-uses : goal.returns-clause-uses
returns-clause-uses c =
    let keys = listed c.args.keys.now in
    let ds = c.args.declarations.now in
    rows_are keys (map declaration_view ds) c.loop-declaration.rows.items c.requires
    (makes_all declaration_view (λ i. map (uses_by keys)) ds c.loop-declaration.declaration-index (map (λ r. r.items) c.loop-declaration.rows.items) (omega arith) refl c.loop-declaration.invariant)
