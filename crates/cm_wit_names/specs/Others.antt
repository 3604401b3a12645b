-- The places of keys that are not the first of their names.
use Rattle.std.specs.Prelude.{◌≡◌, ℕ, Some, None}
use Rattle.std.specs.Prelude.{if◌then◌else◌}
use Rattle.std.specs.BTreeMap.{BTreeMap, get, is_at}
use Rattle.cm_names.specs.KeyTables.{or_else}
use Rattle.cm_wit_names.specs.Pairs.{pair_cmp}

-- the places, each by the index of a name and by a number
abbrev pub Others : Type 0
Others = BTreeMap (ℕ × ℕ) ℕ

-- The place was put for this index and number, unless one stood there.
abbrev pub NotesOther : ℕ × ℕ → ℕ → Others → Others → Type 0
NotesOther key place old new = (i n : ℕ) → get pair_cmp new (i, n)
    ≡ or_else (get pair_cmp old (i, n)) (if is_at (pair_cmp key) (i, n) then Some place else None)
