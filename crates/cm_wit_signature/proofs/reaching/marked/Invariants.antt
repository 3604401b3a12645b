use Rattle.cm_wit_signature.proofs.reaching.marked.Given as goal
use Rattle.cm_wit_graph.proofs.MarkLaws.{Lists}

abbrev pub invariant-loop-number : goal.invariant-loop-number
invariant-loop-number l = Lists l.marks l.number l.out.items
