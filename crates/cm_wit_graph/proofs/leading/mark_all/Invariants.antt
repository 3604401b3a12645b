use Rattle.std.proofs.Common.{◌≡◌, take, vec_len}
use Rattle.cm_wit_graph.specs.Marking.{Marked}
use Rattle.cm_wit_graph.proofs.leading.mark_all.Given as goal

abbrev pub invariant-loop-node : goal.invariant-loop-node
invariant-loop-node l = (vec_len l.marks ≡ vec_len l.initial.marks) × Marked (take l.node-index l.nodes) l.initial.marks.items l.marks.items l.initial.pending.items l.pending.items
