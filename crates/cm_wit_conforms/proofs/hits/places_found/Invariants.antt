use Rattle.cm_wit_conforms.proofs.HitLaws.{Finds}
use Rattle.cm_wit_conforms.proofs.hits.places_found.Given as goal

abbrev pub invariant-loop-each : goal.invariant-loop-each
invariant-loop-each l = Finds l.found l.each-index l.places.items
