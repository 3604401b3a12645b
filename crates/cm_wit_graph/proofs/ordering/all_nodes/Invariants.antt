use Rattle.std.proofs.Common.{◌≡◌, ◌<◌, ℕ, get_or, vec_len}
use Rattle.cm_wit_graph.proofs.ordering.all_nodes.Given as goal

abbrev pub invariant-loop-node : goal.invariant-loop-node
invariant-loop-node l = (vec_len l.nodes ≡ l.node) × ((k : ℕ) → k < l.node → get_or l.nodes.items k (0, 0) ≡ (k, 0))
