use Rattle.cm_wit_graph.proofs.EdgeLaws.{Marks}
use Rattle.cm_wit_graph.proofs.edges.named_marks.Given as goal

abbrev pub invariant-loop-target : goal.invariant-loop-target
invariant-loop-target l = Marks l.count l.named l.target-index l.marks.items
