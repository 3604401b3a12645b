use Rattle.std.proofs.Common.{◌≡◌, ◌<◌, ℕ, [], take, vec_len}
use Rattle.cm_wit_graph.specs.Rows.{row_of, sources}
use Rattle.cm_wit_graph.proofs.rows.incoming.Given as goal

abbrev pub invariant-loop-node : goal.invariant-loop-node
invariant-loop-node l = (vec_len l.rows ≡ l._node) × ((b : ℕ) → row_of l.rows.items b ≡ [])

abbrev pub invariant-loop-from : goal.invariant-loop-from
invariant-loop-from l = (vec_len l.rows ≡ l.nodes) × ((b : ℕ) → b < l.nodes → row_of l.rows.items b ≡ sources (take l.from-index l.edges) b)
