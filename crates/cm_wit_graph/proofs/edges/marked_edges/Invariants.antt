use Rattle.std.proofs.Common.{[]}
use Rattle.cm_wit_graph.specs.Marked.{marked_edge}
use Rattle.cm_wit_graph.proofs.EdgeLaws.{Finds}
use Rattle.cm_wit_graph.proofs.edges.marked_edges.Given as goal

abbrev pub invariant-loop-edge : goal.invariant-loop-edge
invariant-loop-edge l = Finds (marked_edge l.marks) l.edges l.edge-index [] l.kept.items
