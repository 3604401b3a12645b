-- UTF-16, each unit little end first (the Unicode Standard, D91 and D97, UTF-16LE).
use Rattle.std.specs.Prelude.{ℕ, ◌+◌, ◌*◌, ◌/◌, ◌%◌, List, [], ◌∷◌}
use Rattle.std.specs.List.{flat_map}
use Rattle.std.specs.Char.Escape.{encode_utf16}

-- the two bytes of a unit, little end first
abbrev pub bytes_of_unit : ℕ → List ℕ
bytes_of_unit u = (u % 256) ∷ (u / 256) ∷ []

-- the bytes of a scalar in UTF-16: one unit below 0x10000, else a surrogate pair
abbrev pub spell_utf16 : ℕ → List ℕ
spell_utf16 c = flat_map bytes_of_unit (encode_utf16 c)

-- the unit of these two bytes, little end first
abbrev pub unit : ℕ → ℕ → ℕ
unit low high = low + 256 * high

-- the units of UTF-16 that bytes hold; an odd last byte is no unit
abbrev pub units : List ℕ → List ℕ
units [] = []
units (low ∷ []) = []
units (low ∷ high ∷ bytes) = unit low high ∷ units bytes

-- the first byte of each unit
abbrev pub first_bytes : List ℕ → List ℕ
first_bytes [] = []
first_bytes (low ∷ []) = []
first_bytes (low ∷ high ∷ bytes) = low ∷ first_bytes bytes
