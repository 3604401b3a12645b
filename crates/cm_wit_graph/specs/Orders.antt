-- Nodes that need others, and orders in which each stands behind those that it needs.
use Rattle.std.specs.Prelude.{◌≡◌, ℕ, zero, suc, ◌<◌, List, [], Option, MatchOption}
use Rattle.std.specs.Prelude.{length, take, map, slice_index_or}
use Rattle.std.specs.List.{All, Contains}
use Rattle.std.specs.Global.{Vec}

-- what each node needs
abbrev pub Needs : Type 0
Needs = ℕ → List ℕ

-- a walk of so many steps, each from a node to one that it needs
abbrev pub Walk : Needs → ℕ → ℕ → ℕ → Type 0
Walk needs a b zero = a ≡ b
Walk needs a b (suc n) = (c : ℕ) × Contains (needs a) c × Walk needs c b n

-- a node needs itself, by way of others or not
abbrev pub NeedsItself : Needs → ℕ → Type 0
NeedsItself needs a = (n : ℕ) × Walk needs a a (suc n)

-- what is needed is below a number
abbrev pub IsWithin : ℕ → Needs → Type 0
IsWithin count needs = (k : ℕ) → All (λ j. j < count) (needs k)

-- each node is ranked above those that it needs
abbrev pub IsRanked : Needs → (ℕ → ℕ) → Type 0
IsRanked needs rank = (k : ℕ) → All (λ j. rank j < rank k) (needs k)

-- each node in a list stands behind those that it needs
abbrev pub IsBehind : Needs → List ℕ → Type 0
IsBehind needs order = (i : ℕ) → i < length order
    → All (Contains (take i order)) (needs (slice_index_or order i 0))

-- The order has each node below a number, and each node in it stands behind those that it needs.
pub record IsOrder (count : ℕ) (needs : Needs) (order : List ℕ) : Type 0 where
  pub whole : (k : ℕ) → k < count → Contains order k
  pub behind : IsBehind needs order

-- an order, if there is one: there is none where a node needs itself
abbrev pub IsOrderOf : ℕ → Needs → Option (List ℕ) → Type 0
IsOrderOf count needs order =
    MatchOption order ((k : ℕ) × NeedsItself needs k) (IsOrder count needs)

-- what each row says that its node needs
abbrev pub needs_of : List (Vec ℕ) → Needs
needs_of rows k = slice_index_or (map (λ row. row.items) rows) k []
