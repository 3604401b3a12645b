use Rattle.std.proofs.Common.{◌↔◌, ℕ, map}
use Rattle.std.proofs.lemmas.Result.{IfOk-weaker}
use Rattle.cm_wit_graph.specs.Graphs.{IsMarked, LeadsToMarked}
use Rattle.cm_names.specs.Listed.{listed}
use Rattle.cm_wit_tables.specs.DeclaredViews.{declaration_view}
use Rattle.cm_wit_tables.specs.TypeFaults.{IsResource}
use Rattle.cm_wit_tables.proofs.ResourceLaws.{edges_fit, marks_told}
use Rattle.cm_wit_tables.proofs.resources.resource_marks.Goals as goal

pub new-requires : goal.new-requires
new-requires c = edges_fit declaration_view c.args.declarations.now (listed c.args.keys.now) c.in_ok-edges.edges.items c.requires c.in_ok-edges.ensures

pub returns-clause-marked : goal.returns-clause-marked
returns-clause-marked c =
    IfOk-weaker c.leading_to-2.result
    (λ v. (a : ℕ) → IsMarked v.items a ↔ LeadsToMarked c.in_ok-new.field-0.edges c.in_ok-marks.marks.items a)
    (λ v. (k : ℕ) → IsMarked v.items k ↔ IsResource (map declaration_view c.args.declarations.now) k)
    (λ v. marks_told declaration_view c.args.declarations.now (listed c.args.keys.now) c.in_ok-edges.edges.items c.requires c.in_ok-edges.ensures c.in_ok-new.field-0.edges c.in_ok-marks.marks.items v.items c.in_ok-new.ensures.edges c.in_ok-marks.ensures)
    c.leading_to-2.ensures.marked
