use Rattle.cm_wit_conforms.proofs.HitLaws.{Seeks}
use Rattle.cm_wit_conforms.proofs.hits.first_hits.Given as goal

abbrev pub invariant-loop-at : goal.invariant-loop-at
invariant-loop-at l = Seeks l.found l.at l.hits
