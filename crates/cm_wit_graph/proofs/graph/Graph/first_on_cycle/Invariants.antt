use Rattle.cm_wit_graph.specs.Graphs.{NoneBelow}
use Rattle.cm_wit_graph.proofs.graph.Graph.first_on_cycle.Given as goal

abbrev pub invariant-loop-node : goal.invariant-loop-node
invariant-loop-node l = NoneBelow l.self.edges l.node
