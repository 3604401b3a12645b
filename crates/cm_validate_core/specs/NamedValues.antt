-- Names, and values under names.
use Rattle.std.specs.Prelude.{◌≡◌, ℕ, List, map, Option}
use Rattle.std.specs.Borrow.{Bor}
use Rattle.std.specs.BTreeMap.{BTreeMap, get_by}
use Rattle.std.specs.Cmp.Lexicographic.{slice_cmp}
use Rattle.std.specs.List.{position_from}
use Rattle.std.specs.Map.{lookup}
use Rattle.std.specs.Ordering.{nat_cmp}
use Rattle.std.specs.Str.{bytes_eq}

-- the names of values
abbrev pub names_in : {V : Type 0} → List (Bor (List ℕ) × V) → List (List ℕ)
names_in entries = map (λ e. e.0.now) entries

-- the place of a name, if it is there
abbrev pub place_of : List ℕ → List (List ℕ) → Option ℕ
place_of name names = position_from (bytes_eq name) 0 names

-- the value under a name, if there is one
abbrev pub value_of : {V : Type 0} → List ℕ → List (Bor (List ℕ) × V) → Option V
value_of name entries = lookup (λ k. bytes_eq name k.now) entries

-- a tree tells the places of names
abbrev pub ArePlaced : BTreeMap (Bor (List ℕ)) ℕ → List (List ℕ) → Type 0
ArePlaced places names =
    (name : List ℕ) → get_by (λ k. slice_cmp nat_cmp name k.now) places ≡ place_of name names
