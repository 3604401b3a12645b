-- Runs: the longest beginnings of texts that have bytes of one kind alone.
use Rattle.std.specs.Prelude.{ℕ, zero, suc, Bool, false, ◌==◌, ◌||◌, not, List, [], ◌∷◌, take}
use Rattle.std.specs.Prelude.{if◌then◌else◌}
use Rattle.std.specs.Char.{is_ascii_digit, is_ascii_alphanumeric}
use Rattle.cm_wit_tokens.specs.declared.run.Run.{Run}
use Rattle.cm_wit_tokens.specs.declared.run.Run.TheVariants as run

-- whether a text begins with a letter or a digit
abbrev pub begins_alphanumeric : List ℕ → Bool
begins_alphanumeric [] = false
begins_alphanumeric (b ∷ rest) = is_ascii_alphanumeric b

-- whether a byte, in front of the rest of the text, belongs to a run. A word has letters, digits
-- and hyphens (0x2D); a version has these, `+` (0x2B), and each `.` (0x2E) that a letter or digit
-- follows (this project's own choice); a line has all but the line feed (0x0A)
abbrev pub belongs : Run → ℕ → List ℕ → Bool
belongs run.Word b rest = is_ascii_alphanumeric b || (b == 0x2D)
belongs run.Digits b rest = is_ascii_digit b
belongs run.Version b rest =
    if b == 0x2E then begins_alphanumeric rest
    else (is_ascii_alphanumeric b || (b == 0x2B)) || (b == 0x2D)
belongs run.Line b rest = not (b == 0x0A)

-- whether a run goes on at the front of a text
abbrev pub goes_on : Run → List ℕ → Bool
goes_on k [] = false
goes_on k (b ∷ rest) = belongs k b rest

-- how many bytes of the front of a text are a run: the longest one
unfoldable pub run_length : Run → List ℕ → ℕ
run_length k [] = zero
run_length k (b ∷ rest) = if belongs k b rest then suc (run_length k rest) else zero

-- the run at the front of a text
abbrev pub run_text : Run → List ℕ → List ℕ
run_text k text = take (run_length k text) text
