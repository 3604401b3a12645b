use Rattle.cm_wit_graph.proofs.CycleLaws.{NoTarget}
use Rattle.cm_wit_graph.proofs.cycles.has_marked_target.Given as goal

abbrev pub invariant-loop-from : goal.invariant-loop-from
invariant-loop-from l = NoTarget l.edges l.node l.from-index l.marks
