use Rattle.cm_wit_graph.proofs.CycleLaws.{Rises}
use Rattle.cm_wit_graph.proofs.cycles.first_candidate.Given as goal

abbrev pub invariant-loop-from : goal.invariant-loop-from
invariant-loop-from l = Rises l.edges l.ranks l.from-index l.least
