-- Directed graphs: nodes are numbers, and an edge is the pair of the node that it comes from and
-- the node that it leads to.
use Rattle.std.specs.Prelude.{◌≡◌, ℕ, zero, suc, ◌<◌, Bool, true, false, List, All, Option}
use Rattle.std.specs.Prelude.{slice_index_or, MatchOption}
use Rattle.std.specs.List.{Contains}

abbrev pub Edges : Type 0
Edges = List (ℕ × ℕ)

-- A graph: the nodes are the numbers below this one.
pub record GraphTree : Type 0 where
  pub nodes : ℕ
  pub edges : Edges

abbrev pub HasEdge : Edges → ℕ → ℕ → Type 0
HasEdge es a b = Contains es (a, b)

-- edges between the nodes below a number
abbrev pub IsWithin : ℕ → Edges → Type 0
IsWithin nodes es = All (λ e. (e.0 < nodes) × (e.1 < nodes)) es

-- a walk of so many edges
abbrev pub Walk : Edges → ℕ → ℕ → ℕ → Type 0
Walk es a b zero = a ≡ b
Walk es a b (suc n) = (c : ℕ) × HasEdge es a c × Walk es c b n

-- a node leads to another one, or is it
abbrev pub Leads : Edges → ℕ → ℕ → Type 0
Leads es a b = (n : ℕ) × Walk es a b n

-- a node lies on a cycle
abbrev pub ReachesItself : Edges → ℕ → Type 0
ReachesItself es a = (n : ℕ) × Walk es a a (suc n)

-- a node is marked
abbrev pub IsMarked : List Bool → ℕ → Type 0
IsMarked marks a = slice_index_or marks a false ≡ true

-- a node leads to a marked one
abbrev pub LeadsToMarked : Edges → List Bool → ℕ → Type 0
LeadsToMarked es marks a = (b : ℕ) × Leads es a b × IsMarked marks b

-- the nodes below a number lie on no cycle
abbrev pub NoneBelow : Edges → ℕ → Type 0
NoneBelow es n = (a : ℕ) → a < n → ReachesItself es a → ⊥

-- the least node that lies on a cycle, if there is one
abbrev pub IsFirstOnCycle : Edges → Option ℕ → Type 0
IsFirstOnCycle es first =
    MatchOption first ((a : ℕ) → ReachesItself es a → ⊥) (λ a. ReachesItself es a × NoneBelow es a)
