-- UTF-8 (the Unicode Standard, D92 and table 3-6).
use Rattle.std.specs.Prelude.{ℕ, ◌+◌, ◌/◌, ◌%◌, if◌then◌else◌, nat_lt, List, [], ◌∷◌}

-- a byte that goes on with a spelling: 0x80 and the last six bits
abbrev pub following : ℕ → ℕ
following bits = 0x80 + bits % 64

-- the bytes of a scalar in UTF-8: one below 0x80, two below 0x800, three below 0x10000, else four
abbrev pub spell_utf8 : ℕ → List ℕ
spell_utf8 c =
    if nat_lt c 0x80 then c ∷ []
    else (if nat_lt c 0x800 then (0xC0 + c / 64) ∷ following c ∷ []
    else (if nat_lt c 0x10000 then (0xE0 + c / 4096) ∷ following (c / 64) ∷ following c ∷ []
    else (0xF0 + c / 262144) ∷ following (c / 4096) ∷ following (c / 64) ∷ following c ∷ []))
