use Rattle.cm_names.specs.Listed.{listed}
use Rattle.cm_wit_conforms.specs.Places.{found_by}
use Rattle.cm_wit_conforms.proofs.MapLaws.{Maps}
use Rattle.cm_wit_conforms.proofs.places.all_found.Given as goal

abbrev pub invariant-loop-name : goal.invariant-loop-name
invariant-loop-name l = Maps (found_by l.numbers (listed l.keys)) l.names l.name-index l.places.items
