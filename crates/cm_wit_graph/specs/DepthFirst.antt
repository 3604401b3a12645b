-- Depth-first order: each node is preceded by those that it needs.
use Rattle.std.specs.Prelude.{◌≡◌, ℕ, Bool, true, false, List, [], ◌∷◌, ◌++◌, map, slice_index_or}
use Rattle.std.specs.Prelude.{nat_eq}
use Rattle.std.specs.List.{list_any}
use Rattle.std.specs.Global.{Vec}

-- whether a node is among these
abbrev pub is_among : ℕ → List ℕ → Bool
is_among n nodes = list_any (nat_eq n) nodes

-- the nodes that the n-th node needs
abbrev pub needs_of : List (Vec ℕ) → ℕ → List ℕ
needs_of rows n = slice_index_or (map (λ row. row.items) rows) n []

-- `Orders needs placed nodes order`: where these nodes were placed, others are placed behind them
-- in turn, each after those that it needs, in the same way, and each once; then the order is this
-- one. There is none where one of them needs itself, by way of others or not.
pub data Orders (needs : ℕ → List ℕ) : List ℕ → List ℕ → List ℕ → Type 0 where
  -- none is left
  over : (placed : List ℕ) → Orders needs placed [] placed
  -- the first of them is placed already
  is_there : (n : ℕ) (placed nodes order : List ℕ) → is_among n placed ≡ true
      → Orders needs placed nodes order → Orders needs placed (n ∷ nodes) order
  -- it is not: what it needs is placed, then it, and then the others
  is_new : (n : ℕ) (placed before nodes order : List ℕ) → is_among n placed ≡ false
      → Orders needs placed (needs n) before → Orders needs (before ++ n ∷ []) nodes order
      → Orders needs placed (n ∷ nodes) order
