use Rattle.std.proofs.Common.{◌≡◌, ap}
use Rattle.cm_names.specs.Listed.{listed}
use Rattle.cm_wit_reading.specs.Views.{type_def_tree}
use Rattle.cm_wit_tables.specs.Declarations.{defined}
use Rattle.cm_wit_tables.specs.DeclaredViews.{declared_view}
use Rattle.cm_wit_tables.proofs.LeadLaws.{none_told, all_told}
use Rattle.cm_wit_tables.proofs.leading.has_types.Goals as goal
use Rattle.cm_wit_tables.proofs.leading.has_types.Goals.{then-are_found, else-are_found}

pub returns-after-are_found : goal.returns-after-are_found
returns-after-are_found c =
    let d = c.args.declaration.now in
    let names = c.in_ok-names-in-Defined.names in
    let is : declared_view d.is ≡ defined (type_def_tree c.in-Defined.def.now) = ap declared_view c.in-Defined.is in
    elim c.if-are_found.branch [
      | then-are_found w ↦ all_told (listed c.args.keys.now) c.args.marks.now d.in_list (declared_view d.is) (type_def_tree c.in-Defined.def.now) is names.all.items c.in_ok-names-in-Defined.ensures.all c.deref.result.now c.deref.ensures.value c.are_found.result c.are_found.ensures names.borrowed.items w.deref-then-are_found.result.now c.if-are_found.result w.are_marked.result c.in_ok-names-in-Defined.ensures.borrowed w.deref-then-are_found.ensures.value w.are_marked.ensures w.result-is w.if-are_found.true
      | else-are_found w ↦ none_told (listed c.args.keys.now) c.args.marks.now d.in_list (declared_view d.is) (type_def_tree c.in-Defined.def.now) is names.all.items c.in_ok-names-in-Defined.ensures.all c.deref.result.now c.deref.ensures.value c.are_found.result c.are_found.ensures c.if-are_found.result w.result-is w.if-are_found.false
    ]
