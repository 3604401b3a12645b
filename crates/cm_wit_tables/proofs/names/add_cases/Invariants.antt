use Rattle.cm_wit_reading.specs.Views.{case_tree}
use Rattle.cm_wit_tables.specs.Declarations.{names_in_payload}
use Rattle.cm_wit_tables.specs.TypeFaults.{borrowed_in_payload}
use Rattle.cm_wit_tables.proofs.AddLaws.{AddsEach}
use Rattle.cm_wit_tables.proofs.names.add_cases.Given as goal

abbrev pub invariant-loop-case : goal.invariant-loop-case
invariant-loop-case l = AddsEach (λ c. names_in_payload c.ty) (λ c. borrowed_in_payload c.ty) case_tree l.cases l.case-index l.initial.out l.out
