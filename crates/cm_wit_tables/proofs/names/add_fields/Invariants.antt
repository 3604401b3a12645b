use Rattle.cm_wit_reading.specs.SignatureViews.{typed_tree}
use Rattle.cm_wit_tables.specs.Declarations.{names_in}
use Rattle.cm_wit_tables.specs.TypeFaults.{borrowed_in}
use Rattle.cm_wit_tables.proofs.AddLaws.{AddsEach}
use Rattle.cm_wit_tables.proofs.names.add_fields.Given as goal

abbrev pub invariant-loop-field : goal.invariant-loop-field
invariant-loop-field l = AddsEach (λ f. names_in f.1) (λ f. borrowed_in f.1) typed_tree l.fields l.field-index l.initial.out l.out
