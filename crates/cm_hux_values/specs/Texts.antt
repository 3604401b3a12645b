-- Lists of bytes that are texts (this project's own choice).
use Rattle.std.specs.Prelude.{ℕ, ◌&&◌, ◌||◌, ◌==◌, not, Bool, true, false, if◌then◌else◌, nat_lt}
use Rattle.std.specs.Prelude.{List, [], ◌∷◌, length, Option, Some, None}
use Rattle.std.specs.Char.{is_control}
use Rattle.std.specs.List.{list_all}
use Rattle.std.specs.Str.{chars, is_utf8}
use Rattle.cm_types.specs.Types.{Ty, unsigned, bits_8}
use Rattle.cm_types.specs.Values.{Vals, no_vals, val, number}
use Rattle.cm_values.specs.Quotes.{quoted}

abbrev pub is_byte : Ty → Bool
is_byte (unsigned bits_8) = true
is_byte t = false

-- the bytes among values
abbrev pub bytes_in : Vals → List ℕ
bytes_in no_vals = []
bytes_in (val (number n) vs) = if nat_lt n 256 then n ∷ bytes_in vs else bytes_in vs
bytes_in (val v vs) = bytes_in vs

-- whether texts have a character: of the control characters only tab and the ends of lines
abbrev pub is_textual : ℕ → Bool
is_textual c = not (is_control c) || ((c == 0x09) || ((c == 0x0A) || (c == 0x0D)))

-- whether a text is not empty, and texts have each of its characters
abbrev pub is_whole : List ℕ → Bool
is_whole bs = not (length bs == 0) && list_all is_textual (chars bs)

-- whether bytes are such a text
abbrev pub is_text : List ℕ → Bool
is_text bs = is_utf8 bs && is_whole bs

-- a text in quotes, where bytes are one
abbrev pub text_words : List ℕ → Option (List ℕ)
text_words bs = if is_text bs then Some (quoted 0x22 (chars bs)) else None
