-- How a walk stands that places nodes: a node that is not placed waits for one that it needs.
use Rattle.std.specs.Prelude.{◌≡◌, ◌↔◌, ℕ, suc, ◌+◌, ◌<◌, ◌≤◌, ◌⊎◌, Bool, true, false}
use Rattle.std.specs.Prelude.{List, [], ◌∷◌, Option, MatchOption, length, map, vec_len}
use Rattle.std.specs.Prelude.{slice_index_or}
use Rattle.std.specs.List.{Contains}
use Rattle.std.specs.Global.{Vec}
use Rattle.cm_wit_graph.specs.Orders.{Needs, IsWithin, IsBehind, needs_of}
use Rattle.cm_wit_graph.specs.declared.walk.Walk.{Walk}

-- a node, and the place from which on its needs have to be looked at
abbrev pub Entry : Type 0
Entry = ℕ × ℕ

-- the entries that wait for a node
abbrev pub entries_of : List (Vec Entry) → ℕ → List Entry
entries_of waiting j = slice_index_or (map (λ row. row.items) waiting) j []

-- how a walk over so many nodes stands: which are placed, what waits for each, and the order; the
-- lists of what waits are so many
pub record Standing : Type 0 where
  pub count : ℕ
  pub needs : Needs
  pub placed : List Bool
  pub lists : ℕ
  pub waiting : ℕ → List Entry
  pub order : List ℕ

abbrev pub standing : Walk → Standing
standing w = record {
  count = length w.rows.now;
  needs = needs_of w.rows.now;
  placed = w.placed.items;
  lists = vec_len w.waiting;
  waiting = entries_of w.waiting.items;
  order = w.order.items;
}

-- the same nodes with the same needs
abbrev pub AreSameNodes : Standing → Standing → Type 0
AreSameNodes s t = (t.count ≡ s.count) × (t.needs ≡ s.needs)

-- a node is marked
abbrev pub IsMarked : List Bool → ℕ → Type 0
IsMarked marks k = slice_index_or marks k false ≡ true

-- the needs of a node before a place are in the order
abbrev pub AreMet : Standing → Entry → Type 0
AreMet s e = (i : ℕ) → i < e.1 → i < length (s.needs e.0)
    → Contains s.order (slice_index_or (s.needs e.0) i 0)

-- the same, but for needs that are one node
abbrev pub AreMetBut : Standing → ℕ → Entry → Type 0
AreMetBut s j e = (i : ℕ) → i < e.1 → i < length (s.needs e.0)
    → (slice_index_or (s.needs e.0) i 0 ≡ j)
    ⊎ Contains s.order (slice_index_or (s.needs e.0) i 0)

-- how many nodes are not marked
abbrev pub unmarked : List Bool → ℕ
unmarked [] = 0
unmarked (true ∷ marks) = unmarked marks
unmarked (false ∷ marks) = suc (unmarked marks)

-- It stands as it should: what is placed stands behind what it needs; what waits for a node needs
-- that one, and all that it needs before is placed.
pub record Stands (s : Standing) : Type 0 where
  pub within : IsWithin s.count s.needs
  pub placed_size : length s.placed ≡ s.count
  pub waiting_size : s.lists ≡ s.count
  pub placed : (k : ℕ) → IsMarked s.placed k ↔ Contains s.order k
  pub behind : IsBehind s.needs s.order
  pub below : (j : ℕ) (e : Entry) → Contains (s.waiting j) e → e.0 < s.count
  pub wants : (j : ℕ) (e : Entry) → Contains (s.waiting j) e → Contains (s.needs e.0) j
  pub met : (j : ℕ) (e : Entry) → Contains (s.waiting j) e → AreMetBut s j e

-- It went on: more is placed, and more waits for what is not.
pub record Goes (s t : Standing) : Type 0 where
  pub count : t.count ≡ s.count
  pub needs : t.needs ≡ s.needs
  pub longer : length s.order ≤ length t.order
  pub kept : (i : ℕ) → i < length s.order → slice_index_or t.order i 0 ≡ slice_index_or s.order i 0
  pub waits : (j : ℕ) (e : Entry) → Contains (s.waiting j) e → Contains (t.waiting j) e
  pub closed : (j : ℕ) → Contains s.order j → t.waiting j ≡ s.waiting j
  pub work : length t.order + unmarked t.placed ≡ length s.order + unmarked s.placed

-- a node is placed, or waits for one
abbrev pub IsSettled : Standing → ℕ → Type 0
IsSettled s k = Contains s.order k ⊎ ((j : ℕ) × (from : ℕ) × Contains (s.waiting j) (k, from))

-- Each node is settled, and none waits for the first nodes of the order.
pub record IsThrough (s : Standing) (head : ℕ) : Type 0 where
  pub stands : Stands s
  pub work : length s.order + unmarked s.placed ≡ s.count
  pub settled : (k : ℕ) → k < s.count → IsSettled s k
  pub emptied : (i : ℕ) → i < head → i < length s.order
      → s.waiting (slice_index_or s.order i 0) ≡ []

-- the first need of a node that is not marked, from a place on, with its place, if there is one
abbrev pub IsOpenNeed : List ℕ → ℕ → List Bool → Option (ℕ × ℕ) → Type 0
IsOpenNeed row from marks need = MatchOption need
    ((i : ℕ) → from ≤ i → i < length row → IsMarked marks (slice_index_or row i 0))
    (λ p. (p.0 < length row) × (slice_index_or row p.0 0 ≡ p.1)
    × (slice_index_or marks p.1 false ≡ false)
    × ((i : ℕ) → from ≤ i → i < p.0 → IsMarked marks (slice_index_or row i 0)))
