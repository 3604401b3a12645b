use Rattle.std.proofs.Common.{◌<◌, ℕ}
use Rattle.cm_wit_graph.specs.Walks.{IsMarked}
use Rattle.cm_wit_graph.proofs.ordering.all_marked.Given as goal

abbrev pub invariant-loop-mark : goal.invariant-loop-mark
invariant-loop-mark l = (k : ℕ) → k < l.mark-index → IsMarked l.marks k
