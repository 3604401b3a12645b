-- Marking nodes, step by step: the nodes that are pending are marked, and what leads to them may
-- not be marked yet.
use Rattle.std.specs.Prelude.{◌≡◌, ℕ, zero, suc, ◌+◌, ◌<◌, Bool, true, false, ◌⊎◌, List, [], ◌∷◌}
use Rattle.std.specs.Prelude.{length, All}
use Rattle.std.specs.List.{Contains}
use Rattle.cm_wit_graph.specs.Graphs.{IsMarked}

-- how many nodes are not marked
abbrev pub unmarked : List Bool → ℕ
unmarked [] = 0
unmarked (true ∷ marks) = unmarked marks
unmarked (false ∷ marks) = suc (unmarked marks)

-- These nodes were marked, and those of them that had not been were put on the list.
pub record Marked (nodes : List ℕ) (old new : List Bool) (before after : List ℕ) : Type 0 where
  pub size : length new ≡ length old
  pub sound : (a : ℕ) → IsMarked new a → IsMarked old a ⊎ Contains nodes a
  pub kept : (a : ℕ) → IsMarked old a → IsMarked new a
  pub marked : (a : ℕ) → Contains nodes a → IsMarked new a
  pub opened : (a : ℕ) → IsMarked new a → IsMarked old a ⊎ Contains after a
  pub stays : (a : ℕ) → Contains before a → Contains after a
  pub added : (a : ℕ) → Contains after a → Contains before a ⊎ Contains nodes a
  pub work : length after + unmarked new ≡ length before + unmarked old

-- a walk of so many edges, where into b are the nodes from which an edge leads to b
abbrev pub WalkBy : (ℕ → List ℕ) → ℕ → ℕ → ℕ → Type 0
WalkBy into a b zero = a ≡ b
WalkBy into a b (suc n) = (c : ℕ) × Contains (into c) a × WalkBy into c b n

abbrev pub LeadsBy : (ℕ → List ℕ) → List Bool → ℕ → Type 0
LeadsBy into marks a = (b : ℕ) × (n : ℕ) × WalkBy into a b n × IsMarked marks b

-- sources are nodes
abbrev pub IsInto : ℕ → (ℕ → List ℕ) → Type 0
IsInto nodes into = (b : ℕ) → All (λ a. a < nodes) (into b)
