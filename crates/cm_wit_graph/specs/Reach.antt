-- Which interfaces a world reaches (WIT.md, "Item: `use`"). Interfaces are given by number. What an
-- interface uses is given in a row, by number, and as nothing where a path leads to no interface.
use Rattle.std.specs.Prelude.{◌≡◌, ℕ, ◌+◌, ◌<◌, ◌⊎◌, true, is_none, nat_lt, List, [], ◌∷◌}
use Rattle.std.specs.Prelude.{◌++◌, Option, Some, None}
use Rattle.std.specs.Prelude.{length, slice_index_or, if◌then◌else◌}
use Rattle.std.specs.List.{filter_map, list_any, Contains}
use Rattle.cm_wit_graph.specs.Graphs.{Edges, Leads, ReachesItself}

abbrev pub Rows : Type 0
Rows = List (List (Option ℕ))

-- an edge from what is used to the k-th interface, which uses it
abbrev pub edge : ℕ → ℕ → Option ℕ → Option (ℕ × ℕ)
edge count k None = None
edge count k (Some j) = if nat_lt j count then Some (j, k) else None

abbrev pub edges_from : ℕ → ℕ → Rows → Edges
edges_from count k [] = []
edges_from count k (row ∷ rows) =
    filter_map (edge count k) row ++ edges_from count (k + 1) rows

-- each interface that is used leads to those that use it
abbrev pub used_by : Rows → Edges
used_by rows = edges_from (length rows) 0 rows

-- an interface that is among those that are named
abbrev pub IsNamed : Rows → List (Option ℕ) → ℕ → Type 0
IsNamed rows named k = (k < length rows) × Contains named (Some k)

-- An interface is reached: it is named, or used by one that is, by way of others or not.
abbrev pub IsReached : Rows → List (Option ℕ) → ℕ → Type 0
IsReached rows named k = (r : ℕ) × Leads (used_by rows) k r × IsNamed rows named r

-- the k-th row
abbrev pub row_at : Rows → ℕ → List (Option ℕ)
row_at rows k = slice_index_or rows k []

-- A path leads to no interface that is named, or stands in an interface that is reached.
abbrev pub HasMissing : Rows → List (Option ℕ) → Type 0
HasMissing rows named =
    (list_any is_none named ≡ true)
    ⊎ ((k : ℕ) × IsReached rows named k × (list_any is_none (row_at rows k) ≡ true))

-- An interface that is reached uses itself, by way of others or not.
abbrev pub HasCycle : Rows → List (Option ℕ) → Type 0
HasCycle rows named = (k : ℕ) × IsReached rows named k × ReachesItself (used_by rows) k
