use Rattle.cm_wit_graph.proofs.ReachLaws.{NoMissing}
use Rattle.cm_wit_graph.proofs.reaching.marked_missing.Given as goal

abbrev pub invariant-loop-number : goal.invariant-loop-number
invariant-loop-number l = NoMissing l.rows l.marks l.number
