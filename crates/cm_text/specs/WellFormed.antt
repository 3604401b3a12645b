-- Well-formed spellings of one scalar, as tables of bytes.
use Rattle.std.specs.Prelude.{ℕ, Bool, false, ◌&&◌, ◌||◌, List, [], ◌∷◌}
use Rattle.std.specs.Int.{is_in_range}

-- a byte that may follow the first byte, if table 3-7 does not narrow it
abbrev pub follows : ℕ → Bool
follows b = is_in_range 0x80 0xBF b

-- the rows of the Unicode Standard's table 3-7, "Well-Formed UTF-8 Byte Sequences"
abbrev pub is_well_formed_utf8 : List ℕ → Bool
is_well_formed_utf8 [] = false
is_well_formed_utf8 (a ∷ []) = is_in_range 0x00 0x7F a
is_well_formed_utf8 (a ∷ b ∷ []) = is_in_range 0xC2 0xDF a && follows b
is_well_formed_utf8 (a ∷ b ∷ c ∷ []) =
    ((is_in_range 0xE0 0xE0 a && is_in_range 0xA0 0xBF b)
    || (is_in_range 0xE1 0xEC a && follows b)
    || (is_in_range 0xED 0xED a && is_in_range 0x80 0x9F b)
    || (is_in_range 0xEE 0xEF a && follows b)) && follows c
is_well_formed_utf8 (a ∷ b ∷ c ∷ d ∷ []) =
    ((is_in_range 0xF0 0xF0 a && is_in_range 0x90 0xBF b)
    || (is_in_range 0xF1 0xF3 a && follows b)
    || (is_in_range 0xF4 0xF4 a && is_in_range 0x80 0x8F b)) && follows c && follows d
is_well_formed_utf8 (a ∷ b ∷ c ∷ d ∷ e ∷ bytes) = false

-- the rows of the Unicode Standard's table 3-5, "UTF-16 Bit Distribution", as units
abbrev pub is_well_formed_utf16 : List ℕ → Bool
is_well_formed_utf16 [] = false
is_well_formed_utf16 (u ∷ []) = is_in_range 0x0000 0xD7FF u || is_in_range 0xE000 0xFFFF u
is_well_formed_utf16 (high ∷ low ∷ []) =
    is_in_range 0xD800 0xDBFF high && is_in_range 0xDC00 0xDFFF low
is_well_formed_utf16 (a ∷ b ∷ c ∷ us) = false
