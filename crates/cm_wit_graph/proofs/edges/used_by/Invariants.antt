use Rattle.std.proofs.Common.{length}
use Rattle.cm_wit_graph.proofs.EdgeLaws.{Joins}
use Rattle.cm_wit_graph.proofs.edges.used_by.Given as goal

abbrev pub invariant-loop-number : goal.invariant-loop-number
invariant-loop-number l = Joins (λ r. r.items) (length l.rows) l.rows l.number l.edges.items
