-- Where names stand in a text, and in which line.
use Rattle.std.specs.Prelude.{ℕ, ◌+◌, ◌-◌, ◌/◌, ◌==◌, ◌&&◌, nat_le, Bool, true, false, List, []}
use Rattle.std.specs.Prelude.{◌∷◌, filter, length, slice_get, if◌then◌else◌}
use Rattle.std.specs.Option.{option_map_or}
use Rattle.cm_wit_tokens.specs.declared.keyword.Keyword.TheVariants as word
use Rattle.cm_wit_tokens.specs.declared.token.Form.{Form}
use Rattle.cm_wit_tokens.specs.declared.token.Form.TheVariants as form
use Rattle.cm_wit_tokens.specs.declared.token.Token.{Token}
use Rattle.cm_wit_projects_tokens.specs.Tokens.{lexed}
use Rattle.cm_wit_projects_reading.specs.declared.places.LinePlace.{LinePlace}

-- ---- lines

abbrev pub first_place : LinePlace
first_place = record { line = 1; column = 1 }

-- A line feed (0x0A) begins a line. Each other byte is a column, but those that go on with a
-- character: 10xxxxxx, 64 times 2 and more.
abbrev pub after_byte : LinePlace → ℕ → LinePlace
after_byte p b =
    if b == 0x0A then record { line = p.line + 1; column = 1 }
    else if b / 64 == 2 then p
    else record { line = p.line; column = p.column + 1 }

-- the place behind these bytes
unfoldable pub place_behind : LinePlace → List ℕ → LinePlace
place_behind p [] = p
place_behind p (b ∷ bs) = place_behind (after_byte p b) bs

-- ---- names

-- a token that is a name: an identifier, or the word `constructor`, which declares a function
abbrev pub is_name : Form → Bool
is_name (form.Identifier text) = true
is_name (form.Keyword word.Constructor) = true
is_name _ = false

-- such a token that stands where so many bytes of the text are left, or behind
abbrev pub is_sought : ℕ → Token → Bool
is_sought left t = nat_le t.left left && is_name t.form

abbrev pub sought_in : ℕ → List Token → List Token
sought_in left tokens = filter (is_sought left) tokens

-- the byte at which the n-th name from a place on begins, or the text's length
abbrev pub name_place : List ℕ → ℕ → ℕ → ℕ
name_place text left n =
    option_map_or (λ t. length text - t.left) (slice_get (sought_in left (lexed text).tokens) n)
    (length text)
