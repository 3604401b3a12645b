use Rattle.cm_names.specs.Listed.{listed}
use Rattle.cm_wit_tables.specs.DeclaredViews.{declaration_view}
use Rattle.cm_wit_tables.specs.Resources as spec
use Rattle.cm_wit_tables.proofs.MapLaws.{Makes}
use Rattle.cm_wit_tables.proofs.resources.brought_edges.Given as goal

abbrev pub invariant-loop-place : goal.invariant-loop-place
invariant-loop-place l = Makes declaration_view (spec.brought_edges (listed l.keys)) l.declarations l.place l.edges.items
