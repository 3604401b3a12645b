use Rattle.std.proofs.Common.{◌≤◌, ◌<◌, ℕ, get_or}
use Rattle.cm_wit_graph.specs.Walks.{IsMarked}
use Rattle.cm_wit_graph.proofs.waiting.open_need.Given as goal

abbrev pub invariant-loop-place : goal.invariant-loop-place
invariant-loop-place l = (i : ℕ) → l.from ≤ i → i < l.place → IsMarked l.marks (get_or l.row i 0)
