-- Runs of ASCII, in bytes and in units of UTF-16.
use Rattle.std.specs.Prelude.{ℕ, List, [], ◌∷◌}
use Rattle.std.specs.Char.{is_ascii}
use Rattle.std.specs.List.{prefix_len}
use Rattle.cm_text.specs.Utf16.{units}

-- how many bytes come before the first that is not below 0x80
abbrev pub ascii_run : List ℕ → ℕ
ascii_run bytes = prefix_len is_ascii bytes

-- how many units of UTF-16 come before the first that is not below 0x80
abbrev pub ascii_units : List ℕ → ℕ
ascii_units bytes = prefix_len is_ascii (units bytes)

-- the unit of UTF-16 whose value is a byte, little end first
abbrev pub wide : ℕ → List ℕ
wide b = b ∷ 0 ∷ []
