-- What a world reaches.
use Rattle.std.proofs.Common.{◌≡◌, ◌↔◌, ℕ, Bool, List, Option, subst}
use Rattle.cm_wit_graph.specs.Graphs.{IsMarked}
use Rattle.cm_wit_graph.specs.Reach.{Rows, IsReached}

pub marks_same : (rows rows2 : Rows) (named named2 : List (Option ℕ)) (marks : List Bool) (k : ℕ) → rows ≡ rows2 → named ≡ named2 → IsMarked marks k ↔ IsReached rows named k → IsMarked marks k ↔ IsReached rows2 named2 k
marks_same rows rows2 named named2 marks k e f h = subst (λ (r : Rows). IsMarked marks k ↔ IsReached r named2 k) e (subst (λ (l : List (Option ℕ)). IsMarked marks k ↔ IsReached rows l k) f h)
