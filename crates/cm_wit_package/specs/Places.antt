-- Where the names of a text stand.
use Rattle.std.specs.Prelude.{ℕ, ◌-◌, Bool, true, false, List, filter, length, slice_get}
use Rattle.std.specs.Option.{option_map_or}
use Rattle.cm_wit_tokens.specs.declared.keyword.Keyword.TheVariants as keyword
use Rattle.cm_wit_tokens.specs.declared.token.Form.{Form}
use Rattle.cm_wit_tokens.specs.declared.token.Form.TheVariants as form
use Rattle.cm_wit_tokens.specs.declared.token.Token.{Token}
use Rattle.cm_wit_tokens.specs.Tokens.{lexed}

-- a token that is a name: an identifier, or the word `constructor`, which declares a function
abbrev pub is_name : Form → Bool
is_name (form.Identifier word) = true
is_name (form.Keyword keyword.Constructor) = true
is_name _ = false

-- the names among tokens, in order
abbrev pub names_in : List Token → List Token
names_in tokens = filter (λ t. is_name t.form) tokens

-- the byte at which the n-th name of a text begins, or the text's length
abbrev pub name_place : List ℕ → ℕ → ℕ
name_place text n =
    option_map_or (λ t. length text - t.left) (slice_get (names_in (lexed text).tokens) n)
    (length text)
