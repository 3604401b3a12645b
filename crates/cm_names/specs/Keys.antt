-- Keys: a name, in a list of names that has a number.
use Rattle.std.specs.Prelude.{ℕ, ◌==◌, ◌&&◌, Bool, List, Option}
use Rattle.std.specs.List.{position_from}
use Rattle.std.specs.Borrow.{Bor}
use Rattle.std.specs.Str.{bytes_eq}

abbrev pub Key : Type 0
Key = ℕ × List ℕ

-- whether a key is this number and name
abbrev pub is_key : ℕ → List ℕ → Key → Bool
is_key n name k = (n == k.0) && bytes_eq name k.1

-- the place of the first key that is
abbrev pub first_key : List Key → ℕ → List ℕ → Option ℕ
first_key keys n name = position_from (is_key n name) 0 keys

-- the key that the code's is
abbrev pub key_view : ℕ × Bor (List ℕ) → Key
key_view k = (k.0, k.1.now)
