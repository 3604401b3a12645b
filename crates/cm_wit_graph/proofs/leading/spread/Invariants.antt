use Rattle.std.proofs.Common.{◌≡◌, ◌+◌, length, vec_len}
use Rattle.cm_wit_graph.specs.Marking.{unmarked}
use Rattle.cm_wit_graph.specs.Rows.{row_of}
use Rattle.cm_wit_graph.proofs.MarkLaws.{Spreads}
use Rattle.cm_wit_graph.proofs.leading.spread.Given as goal

abbrev pub invariant-loop-node : goal.invariant-loop-node
invariant-loop-node l = (vec_len l.marks ≡ vec_len l.initial.marks) × Spreads (row_of l.rows) l.initial.marks.items l.marks.items l.pending.items

abbrev pub decreases-loop-node : goal.decreases-loop-node
decreases-loop-node l = length l.pending.items + unmarked l.marks.items
