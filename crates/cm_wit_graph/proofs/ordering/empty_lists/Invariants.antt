use Rattle.std.proofs.Common.{◌≡◌, [], ℕ, vec_len}
use Rattle.cm_wit_graph.specs.Walks.{entries_of}
use Rattle.cm_wit_graph.proofs.ordering.empty_lists.Given as goal

abbrev pub invariant-loop-list : goal.invariant-loop-list
invariant-loop-list l = (vec_len l.lists ≡ l._list) × ((k : ℕ) → entries_of l.lists.items k ≡ [])
