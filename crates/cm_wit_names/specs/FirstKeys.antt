-- Tables of the first of keys.
use Rattle.std.specs.Prelude.{◌≡◌, ℕ, ◌==◌, List, Option, Some, None, slice_get}
use Rattle.std.specs.Prelude.{if◌then◌else◌}
use Rattle.std.specs.BTreeMap.{get}
use Rattle.std.specs.Option.{option_and_then}
use Rattle.cm_names.specs.Keys.{Key, is_key}
use Rattle.cm_names.specs.KeyTables.{or_else}
use Rattle.cm_names.specs.TextNumbers.{number_in}
use Rattle.cm_names.specs.TextTables.{texts_of}
use Rattle.cm_wit_names.specs.Others.{Others}
use Rattle.cm_wit_names.specs.Pairs.{pair_cmp}
use Rattle.cm_wit_names.specs.declared.first_keys.FirstKeys.{FirstKeys}

-- the place of the first key of a name, if that has this number
abbrev pub first_under : ℕ → Option (ℕ × ℕ) → Option ℕ
first_under n None = None
first_under n (Some first) = if n == first.0 then Some first.1 else None

-- the place for a number and the name of an index
abbrev pub place_in : List (ℕ × ℕ) → Others → ℕ → ℕ → Option ℕ
place_in firsts others n i =
    or_else (first_under n (slice_get firsts i)) (get pair_cmp others (i, n))

abbrev pub place_at : FirstKeys → ℕ → ℕ → Option ℕ
place_at table n i = place_in table.firsts.items table.others n i

-- the place that stands for a number and a name, by the index of the name
abbrev pub found_in : List (List ℕ) → List (ℕ × ℕ) → Others → ℕ → List ℕ → Option ℕ
found_in names firsts others n name =
    option_and_then (place_in firsts others n) (number_in names name)

abbrev pub look_up : FirstKeys → ℕ → List ℕ → Option ℕ
look_up table n name =
    found_in (texts_of table.names) table.firsts.items table.others n name

-- The place was put into the table for this key, unless one stood there.
abbrev pub Notes : Key → ℕ → FirstKeys → FirstKeys → Type 0
Notes key place old new = (n : ℕ) (name : List ℕ) → look_up new n name
    ≡ or_else (look_up old n name) (if is_key n name key then Some place else None)
