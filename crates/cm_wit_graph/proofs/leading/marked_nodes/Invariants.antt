use Rattle.cm_wit_graph.proofs.MarkLaws.{Lists}
use Rattle.cm_wit_graph.proofs.leading.marked_nodes.Given as goal

abbrev pub invariant-loop-node : goal.invariant-loop-node
invariant-loop-node l = Lists l.marks l.node l.nodes.items
