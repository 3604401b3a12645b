-- A walk to nodes in depth-first order: the path of nodes that were begun, each with how many of
-- its needs were placed.
use Rattle.std.specs.Prelude.{ℕ, List, [], ◌∷◌, ◌++◌, drop}
use Rattle.cm_wit_graph.specs.DepthFirst.{Orders}

-- P holds of what is placed once the rest of a node's needs and then the node have been
abbrev pub After : (ℕ → List ℕ) → ℕ × ℕ → (List ℕ → Type 0) → List ℕ → Type 0
After needs f P placed = (before : List ℕ)
    → Orders needs placed (drop f.1 (needs f.0)) before → P (before ++ f.0 ∷ [])

-- P holds of what is placed once the nodes of a path, the last one first, have been, each behind
-- the rest of its needs
abbrev pub Leaves : (ℕ → List ℕ) → List (ℕ × ℕ) → (List ℕ → Type 0) → List ℕ → Type 0
Leaves needs [] P placed = P placed
Leaves needs (f ∷ fs) P placed = Leaves needs fs (After needs f P) placed
