-- The table of what is known.
use Rattle.std.specs.Prelude.{◌≡◌, ℕ, ◌==◌, ◌&&◌, Bool, false, List, Option, Some, None}
use Rattle.std.specs.Prelude.{if◌then◌else◌}
use Rattle.std.specs.Str.{bytes_eq}
use Rattle.cm_names.specs.KeyTables.{or_else}
use Rattle.cm_wit_names.specs.FirstKeys.{look_up}
use Rattle.cm_wit_names.specs.declared.first_keys.FirstKeys.{FirstKeys}
use Rattle.cm_wit_names.specs.Mentions.{Mention}
use Rattle.cm_wit_names.specs.Known.{known_at}

-- The table has for each number and name the first mention.
abbrev pub IsTableOf : List Mention → FirstKeys → Type 0
IsTableOf ms table = (n : ℕ) (text : List ℕ) → look_up table n text ≡ known_at ms n text

-- whether this number and name are those by which something is known
abbrev pub is_key : ℕ → List ℕ → Option (ℕ × List ℕ) → Bool
is_key n text None = false
is_key n text (Some k) = (n == k.0) && bytes_eq text k.1

-- The index was put into the table for this number and name, unless they stood there.
abbrev pub Notes : Option (ℕ × List ℕ) → ℕ → FirstKeys → FirstKeys → Type 0
Notes known index old new = (n : ℕ) (text : List ℕ) → look_up new n text
    ≡ or_else (look_up old n text) (if is_key n text known then Some index else None)
