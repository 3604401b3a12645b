use Rattle.cm_wit_reading.specs.TypeViews.{type_tree}
use Rattle.cm_wit_tables.specs.Declarations.{names_in}
use Rattle.cm_wit_tables.specs.TypeFaults.{borrowed_in}
use Rattle.cm_wit_tables.proofs.AddLaws.{AddsEach}
use Rattle.cm_wit_tables.proofs.names.+types.Given as goal

abbrev pub invariant-add_types-loop-ty : goal.invariant-add_types-loop-ty
invariant-add_types-loop-ty l = AddsEach names_in borrowed_in type_tree l.types l.ty-index l.initial.out l.out
