-- The tokens of WIT texts that projects write (WIT.md, "Lexical structure"): those of a package
-- that stands alone (`cm_wit_tokens`), but for reserved words, gates and a byte-order mark.
use Rattle.std.specs.Prelude.{ℕ, zero, suc, ◌==◌, ◌&&◌, Bool, false, if◌then◌else◌, List, [], ◌∷◌}
use Rattle.std.specs.Prelude.{length, drop, codes, Option, Some, None}
use Rattle.std.specs.Option.{option_map_or}
use Rattle.std.specs.Str.{bytes_eq}
use Rattle.std.specs.Char.{is_ascii_alphabetic, is_ascii_digit}
use Rattle.cm_wit_tokens.specs.declared.keyword.Keyword.{Keyword}
use Rattle.cm_wit_tokens.specs.declared.keyword.Keyword.TheVariants as word
use Rattle.cm_wit_tokens.specs.declared.run.Run.TheVariants as run
use Rattle.cm_wit_tokens.specs.declared.token.Form.{Form}
use Rattle.cm_wit_tokens.specs.declared.token.Form.TheVariants as form
use Rattle.cm_wit_tokens.specs.declared.front.Front.{Front}
use Rattle.cm_wit_tokens.specs.declared.front.Front.TheVariants as front_is
use Rattle.cm_wit_tokens.specs.Keywords.{keyword_of}
use Rattle.cm_wit_tokens.specs.Runs.{run_length, run_text}
use Rattle.cm_wit_tokens.specs.Tokens as plain
use Rattle.cm_wit_tokens.specs.Tokens.{Lexed, before, identifier_form, token_front, version_front}
use Rattle.cm_wit_projects_tokens.specs.declared.standing.Standing.{Standing}
use Rattle.cm_wit_projects_tokens.specs.declared.standing.Standing.TheVariants as standing
use Rattle.cm_wit_projects_tokens.specs.Gates.{standing_behind}

-- ---- words

-- The keyword whose token a word is. Four words are keywords here, and none of `cm_wit_tokens`, or
-- one that no form begins with (this project's own choice): the token of `with` is that of `from`,
-- and words of forms that are left out, or of none, have that of `own`, which is left out too.
abbrev pub reserved : List ℕ → Option Keyword
reserved text =
    if bytes_eq text (codes "with") then Some word.From
    else if bytes_eq text (codes "from") then Some word.Own
    else if bytes_eq text (codes "map") then Some word.Own
    else if bytes_eq text (codes "error-context") then Some word.Own
    else keyword_of text

-- a word is a keyword, or else an identifier
abbrev pub word_form : List ℕ → Option Form
word_form text = option_map_or (λ k. Some (form.Keyword k)) (reserved text) (identifier_form text)

abbrev pub word_front : List ℕ → Front
word_front text = token_front (word_form (run_text run.Word text)) (run_length run.Word text)

-- ---- what a text begins with

abbrev pub begins : (ℕ → Bool) → List ℕ → Bool
begins test [] = false
begins test (b ∷ rest) = test b

-- in no gate: a word, or else what it is by `cm_wit_tokens`
abbrev pub plain_front : List ℕ → Front
plain_front text = if begins is_ascii_alphabetic text then word_front text else plain.front text

-- directly behind an `@` stands the word of a gate, or a version, and in a gate a digit begins a
-- version
abbrev pub front_at : Standing → List ℕ → Front
front_at standing.BehindAt text =
    if begins is_ascii_alphabetic text then word_front text else version_front text
front_at standing.InGate text =
    if begins is_ascii_digit text then version_front text else plain_front text
front_at s text = plain_front text

-- ---- the tokens of a text

abbrev pub after_front :
    (Standing → List ℕ → Lexed) → Standing → List ℕ → Front → Lexed
after_front lex s text front_is.End = record { tokens = []; stop = None }
after_front lex s text front_is.Bad = record { tokens = []; stop = Some (length text) }
after_front lex s text (front_is.Gap n) = lex s (drop n text)
after_front lex s text (front_is.Token f n) =
    before (record { left = length text; form = f }) (lex (standing_behind s f) (drop n text))

-- the tokens of a text, in so many turns, each of which takes a byte at least
unfoldable pub lexed_in : ℕ → Standing → List ℕ → Lexed
lexed_in zero s text = record { tokens = []; stop = None }
lexed_in (suc turns) s text = after_front (lexed_in turns) s text (front_at s text)

-- a text without the byte-order mark that it may begin with (this project's own choice)
abbrev pub without_mark : List ℕ → List ℕ
without_mark (a ∷ b ∷ c ∷ rest) =
    if (a == 0xEF) && ((b == 0xBB) && (c == 0xBF)) then rest else a ∷ b ∷ c ∷ rest
without_mark text = text

-- the tokens of a text
abbrev pub lexed : List ℕ → Lexed
lexed text = lexed_in (length (without_mark text)) standing.Plain (without_mark text)
