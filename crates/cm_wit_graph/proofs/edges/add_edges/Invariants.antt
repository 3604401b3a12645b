use Rattle.cm_wit_graph.specs.Reach.{edge}
use Rattle.cm_wit_graph.proofs.EdgeLaws.{Finds}
use Rattle.cm_wit_graph.proofs.edges.add_edges.Given as goal

abbrev pub invariant-loop-target : goal.invariant-loop-target
invariant-loop-target l = Finds (edge l.count l.number) l.row l.target-index l.fn.out.items l.out.items
