-- The table of keys: under each number its names, and under each name a place.
use Rattle.std.specs.Prelude.{◌≡◌, ℕ, List, Option, Some, None}
use Rattle.std.specs.Prelude.{if◌then◌else◌}
use Rattle.std.specs.Borrow.{Bor}
use Rattle.std.specs.BTreeMap.{BTreeMap, get_by}
use Rattle.std.specs.Cmp.Lexicographic.{slice_cmp}
use Rattle.std.specs.Option.{option_and_then}
use Rattle.std.specs.Ordering.{nat_cmp}
use Rattle.std.specs.Str.{bytes_eq}
use Rattle.cm_names.specs.Keys.{Key, is_key, first_key}

abbrev pub Names : Type 0
Names = BTreeMap (Bor (List ℕ)) ℕ

abbrev pub KeyTable : Type 0
KeyTable = BTreeMap ℕ Names

-- what stands under a name
abbrev pub under : List ℕ → Names → Option ℕ
under name names = get_by (λ k. slice_cmp nat_cmp name k.now) names

-- what stands in the table for a number and a name
abbrev pub look_up : KeyTable → ℕ → List ℕ → Option ℕ
look_up table n name = option_and_then (under name) (get_by (nat_cmp n) table)

-- The table has for each number and name the first key.
abbrev pub IsTableOf : List Key → KeyTable → Type 0
IsTableOf keys table = (n : ℕ) (name : List ℕ) → look_up table n name ≡ first_key keys n name

abbrev pub or_else : Option ℕ → Option ℕ → Option ℕ
or_else None b = b
or_else (Some a) b = Some a

-- the place was put among the names for this one, unless one stood there
abbrev pub NotesName : List ℕ → ℕ → Names → Names → Type 0
NotesName name place old new = (m : List ℕ) → under m new
    ≡ or_else (under m old) (if bytes_eq m name then Some place else None)

-- The place was put into the table for this key, unless one stood there.
abbrev pub Notes : Key → ℕ → KeyTable → KeyTable → Type 0
Notes key place old new = (n : ℕ) (name : List ℕ) → look_up new n name
    ≡ or_else (look_up old n name) (if is_key n name key then Some place else None)
