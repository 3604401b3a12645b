-- The tokens of WIT texts (WIT.md, "Lexical structure").
use Rattle.std.specs.Prelude.{ℕ, zero, suc, ◌+◌, ◌-◌, ◌*◌, ◌^◌, ◌<◌, ◌≤◌, ◌==◌, ◌||◌}
use Rattle.std.specs.Prelude.{Bool, true, false, if◌then◌else◌, nat_lt, List, [], ◌∷◌, length}
use Rattle.std.specs.Prelude.{drop, Option, Some, None, IsCharBoundary}
use Rattle.std.specs.Option.{option_map, option_map_or}
use Rattle.std.specs.Char.{is_ascii_alphabetic, is_ascii_digit}
use Rattle.cm_types.specs.Names.{is_label}
use Rattle.cm_types.specs.ExternNames.{is_version}
use Rattle.cm_wit_tokens.specs.declared.run.Run.TheVariants as run
use Rattle.cm_wit_tokens.specs.declared.operator.Operator.TheVariants as operator
use Rattle.cm_wit_tokens.specs.declared.token.Form.{Form}
use Rattle.cm_wit_tokens.specs.declared.token.Form.TheVariants as form
use Rattle.cm_wit_tokens.specs.declared.token.Token.{Token}
use Rattle.cm_wit_tokens.specs.declared.front.Front.{Front}
use Rattle.cm_wit_tokens.specs.declared.front.Front.TheVariants as front_is
use Rattle.cm_wit_tokens.specs.Keywords.{keyword_of}
use Rattle.cm_wit_tokens.specs.Operators.{operator_of}
use Rattle.cm_wit_tokens.specs.Comments.{opened, comment_length}
use Rattle.cm_wit_tokens.specs.Runs.{run_length, run_text}

-- ---- what a run stands for

-- an identifier is a label
abbrev pub identifier_form : List ℕ → Option Form
identifier_form word = if is_label word then Some (form.Identifier word) else None

-- a word is a keyword, or else an identifier
abbrev pub word_form : List ℕ → Option Form
word_form word = option_map_or (λ k. Some (form.Keyword k)) (keyword_of word) (identifier_form word)

-- a version is a text that is a semantic version
abbrev pub version_form : List ℕ → Option Form
version_form [] = None
version_form (b ∷ bs) = if is_version (b ∷ bs) then Some (form.Version (b ∷ bs)) else None

-- the number that these digits are behind those of n, if it is below 2^32 (0x30 is the digit 0)
unfoldable pub from_digits : ℕ → List ℕ → Option ℕ
from_digits n [] = Some n
from_digits n (d ∷ ds) =
    let more = n * 10 + (d - 0x30) in
    if nat_lt more (2 ^ 32) then from_digits more ds else None

-- an integer has no zero in front of other digits (this project's own choice)
abbrev pub integer_of : List ℕ → Option ℕ
integer_of [] = from_digits 0 []
integer_of (d ∷ []) = from_digits 0 (d ∷ [])
integer_of (d ∷ e ∷ ds) = if d == 0x30 then None else from_digits 0 (d ∷ e ∷ ds)

-- ---- what a text begins with

-- a token of so many bytes, if there is one
abbrev pub token_front : Option Form → ℕ → Front
token_front None n = front_is.Bad
token_front (Some f) n = front_is.Token f n

-- a comment behind its `/*`
abbrev pub comment_front : List ℕ → Front
comment_front rest =
    option_map_or (λ n. front_is.Gap (2 + n)) (comment_length opened rest) front_is.Bad

-- a comment behind its `//`
abbrev pub line_front : List ℕ → Front
line_front rest = front_is.Gap (2 + run_length run.Line rest)

abbrev pub arrow_front : Front
arrow_front = front_is.Token (form.Operator operator.Arrow) 2

-- a word, and an identifier behind its `%`
abbrev pub word_front : List ℕ → Front
word_front text = token_front (word_form (run_text run.Word text)) (run_length run.Word text)

abbrev pub escaped_front : List ℕ → Front
escaped_front rest =
    token_front (identifier_form (run_text run.Word rest)) (1 + run_length run.Word rest)

-- an integer
abbrev pub integer_front : List ℕ → Front
integer_front text =
    token_front
    (option_map (λ n. form.Integer n) (integer_of (run_text run.Digits text)))
    (run_length run.Digits text)

-- an operator of one byte
abbrev pub operator_front : ℕ → Front
operator_front b = token_front (option_map (λ o. form.Operator o) (operator_of b)) 1

-- directly behind `@` stands a version
abbrev pub version_front : List ℕ → Front
version_front [] = front_is.End
version_front (b ∷ rest) =
    token_front (version_form (run_text run.Version (b ∷ rest))) (run_length run.Version (b ∷ rest))

-- space, tab, carriage return and line feed
abbrev pub is_blank : ℕ → Bool
is_blank b = (b == 0x20) || ((b == 0x09) || ((b == 0x0D) || (b == 0x0A)))

-- behind a `/` (0x2F): a comment where a second one or `*` (0x2A) stands, else the operator
abbrev pub slash_front : List ℕ → Front
slash_front [] = operator_front 0x2F
slash_front (b ∷ rest) =
    if b == 0x2F then line_front rest
    else if b == 0x2A then comment_front rest
    else operator_front 0x2F

-- behind a `-`: an arrow where `>` (0x3E) stands
abbrev pub hyphen_front : List ℕ → Front
hyphen_front [] = front_is.Bad
hyphen_front (b ∷ rest) = if b == 0x3E then arrow_front else front_is.Bad

-- a blank, a comment or `/`, an arrow (0x2D is `-`), an identifier behind `%` (0x25), a word, an
-- integer, or another operator
abbrev pub front : List ℕ → Front
front [] = front_is.End
front (b ∷ rest) =
    if is_blank b then front_is.Gap 1
    else if b == 0x2F then slash_front rest
    else if b == 0x2D then hyphen_front rest
    else if b == 0x25 then escaped_front rest
    else if is_ascii_alphabetic b then word_front (b ∷ rest)
    else if is_ascii_digit b then integer_front (b ∷ rest)
    else operator_front b

abbrev pub front_behind : Bool → List ℕ → Front
front_behind behind_at text = if behind_at then version_front text else front text

-- what stands at the front has a byte, and is not more than the text
abbrev pub IsWithin : Front → List ℕ → Type 0
IsWithin front_is.End text = Unit {0}
IsWithin front_is.Bad text = Unit {0}
IsWithin (front_is.Gap n) text = (0 < n) × (n ≤ length text)
IsWithin (front_is.Token f n) text = (0 < n) × (n ≤ length text)

-- what stands at the front of a text ends where one of its characters does
abbrev pub EndsAtChar : Front → List ℕ → Type 0
EndsAtChar front_is.End text = Unit {0}
EndsAtChar front_is.Bad text = Unit {0}
EndsAtChar (front_is.Gap n) text = IsCharBoundary text n
EndsAtChar (front_is.Token f n) text = IsCharBoundary text n

-- ---- the tokens of a text

abbrev pub is_at : Form → Bool
is_at (form.Operator operator.At) = true
is_at _ = false

-- Tokens, each with the number of bytes that are left from its first one on; and the number of
-- bytes that are left where none of blanks, comments and tokens begins, if there is such a place.
pub record Lexed : Type 0 where
  pub tokens : List Token
  pub stop : Option ℕ

-- a token, and then others
abbrev pub before : Token → Lexed → Lexed
before t l = record { tokens = t ∷ l.tokens; stop = l.stop }

abbrev pub after_front : (Bool → List ℕ → Lexed) → List ℕ → Front → Lexed
after_front lex text front_is.End = record { tokens = []; stop = None }
after_front lex text front_is.Bad = record { tokens = []; stop = Some (length text) }
after_front lex text (front_is.Gap n) = lex false (drop n text)
after_front lex text (front_is.Token f n) =
    before (record { left = length text; form = f }) (lex (is_at f) (drop n text))

-- the tokens of a text, in so many turns, each of which takes a byte at least
unfoldable pub lexed_in : ℕ → Bool → List ℕ → Lexed
lexed_in zero behind_at text = record { tokens = []; stop = None }
lexed_in (suc turns) behind_at text =
    after_front (lexed_in turns) text (front_behind behind_at text)

-- the tokens of a text
abbrev pub lexed : List ℕ → Lexed
lexed text = lexed_in (suc (length text)) false text
