-- Characters in quotes (WAVE, "Strings").
use Rattle.std.specs.Prelude.{ℕ, ◌+◌, ◌/◌, ◌%◌, ◌==◌, ◌||◌, if◌then◌else◌, nat_lt, List, [], ◌∷◌}
use Rattle.std.specs.Prelude.{◌++◌, codes}
use Rattle.std.specs.Char.{encode_utf8}
use Rattle.std.specs.List.{flat_map}

-- a hexadecimal digit
abbrev pub hex_digit : ℕ → ℕ
hex_digit d = if nat_lt d 10 then 0x30 + d else 0x57 + d

-- A character between two such quotes: behind a `\` where it is the quote or a `\` itself; a letter
-- or its number for what is not to be seen; else as it is.
abbrev pub in_quotes : ℕ → ℕ → List ℕ
in_quotes quote c =
    if (c == quote) || (c == 0x5C) then 0x5C ∷ c ∷ []
    else if c == 0x09 then codes "\\t"
    else if c == 0x0A then codes "\\n"
    else if c == 0x0D then codes "\\r"
    else if nat_lt c 0x20 || (c == 0x7F)
    then codes "\\u{" ++ hex_digit (c / 16) ∷ hex_digit (c % 16) ∷ codes "}"
    else encode_utf8 c

-- characters between two quotes
abbrev pub quoted : ℕ → List ℕ → List ℕ
quoted quote cs = quote ∷ (flat_map (in_quotes quote) cs ++ quote ∷ [])
