use Rattle.cm_wit_conforms.specs.Numbers.{front_number}
use Rattle.cm_wit_conforms.specs.PartViews.{front_view}
use Rattle.cm_wit_conforms.proofs.MapLaws.{Maps}
use Rattle.cm_wit_conforms.proofs.places.numbers_of.Given as goal

abbrev pub invariant-loop-front : goal.invariant-loop-front
invariant-loop-front l = Maps (λ f. front_number l.table (front_view f)) l.fronts l.front-index l.numbers.items
