use Rattle.cm_wit_conforms.proofs.HitLaws.{Repeats}
use Rattle.cm_wit_conforms.proofs.hits.repeats.Given as goal

abbrev pub invariant-loop-place : goal.invariant-loop-place
invariant-loop-place l = Repeats l.firsts l.place l.repeats.items
