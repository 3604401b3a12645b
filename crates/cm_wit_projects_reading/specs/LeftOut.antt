-- Forms that are left out, and where things stand.
use Rattle.std.specs.Prelude.{◌≡◌, ℕ, zero, Bool, true, false, if◌then◌else◌, List, [], ◌∷◌, ◌++◌}
use Rattle.std.specs.Prelude.{Option, Some, None, Result, Ok, Err}
use Rattle.std.specs.List.{AllByRecursion}
use Rattle.cm_wit_tokens.specs.declared.keyword.Keyword.TheVariants as word
use Rattle.cm_wit_tokens.specs.declared.operator.Operator.{Operator}
use Rattle.cm_wit_tokens.specs.declared.operator.Operator.TheVariants as operator
use Rattle.cm_wit_tokens.specs.declared.token.Form.{Form}
use Rattle.cm_wit_tokens.specs.declared.token.Form.TheVariants as form
use Rattle.cm_wit_tokens.specs.declared.token.Token.{Token}
use Rattle.cm_wit_tokens.specs.declared.fault.WitReason.{WitReason}
use Rattle.cm_wit_tokens.specs.declared.fault.WitReason.TheVariants as reason
use Rattle.cm_wit_tokens.specs.Faults.{Fault, flaw, and_then}
use Rattle.cm_wit_tokens.specs.Forms.{is_operator}
use Rattle.cm_wit_tokens.specs.Grammar.{Grammar, first, first_or}
use Rattle.cm_wit_projects_reading.specs.Trees.{Placed, Kept, kept, left_out}

-- ---- where a thing stands

-- how many bytes of the text are left from the next token on, and none at the text's end
abbrev pub left_of : Option Token → ℕ
left_of None = zero
left_of (Some t) = t.left

-- A thing with its place.
abbrev pub placed : {A : Type 0} → Grammar A → Grammar (Placed A)
placed g = record {
  Spells = λ p ts next. (p.0 ≡ left_of (first_or ts next)) × g.Spells p.1 ts next;
  reads = λ ts. and_then (g.reads ts) (λ p. Ok ((left_of (first ts), p.0), p.1));
}

-- ---- what is left out

-- the words of forms that are left out (`own` is also the token of `map` and `error-context`)
abbrev pub is_left_out : Form → Bool
is_left_out (form.Keyword word.Own) = true
is_left_out (form.Keyword word.F32) = true
is_left_out (form.Keyword word.F64) = true
is_left_out (form.Keyword word.Stream) = true
is_left_out (form.Keyword word.Future) = true
is_left_out (form.Keyword word.Async) = true
is_left_out _ = false

-- what may stand behind such a word: all but `;`, `{` and `}`
abbrev pub is_other : Form → Bool
is_other (form.Operator operator.Semicolon) = false
is_other (form.Operator operator.LeftBrace) = false
is_other (form.Operator operator.RightBrace) = false
is_other f = true

-- the mark that closes, or a fault
abbrev pub closed : Operator → Token → List Token → Result (Unit {0} × List Token) Fault
closed closing t ts =
    if is_operator closing t.form then Ok (tt, ts) else Err (flaw (t ∷ ts) reason.Unexpected)

unfoldable pub past : Operator → List Token → Result (Unit {0} × List Token) Fault
past closing [] = Err (flaw [] reason.Unexpected)
past closing (t ∷ ts) = if is_other t.form then past closing ts else closed closing t ts

-- Tokens that may stand there, and the mark that closes.
pub record PastSpells (closing : Operator) (ts : List Token) : Type 0 where
  pub others : List Token
  pub mark : Token
  pub parts : ts ≡ others ++ mark ∷ []
  pub each : AllByRecursion (λ t. is_other t.form ≡ true) others
  pub ends : is_other mark.form ≡ false
  pub closes : is_operator closing mark.form ≡ true

abbrev pub to_mark : Operator → Grammar (Unit {0})
to_mark closing = record {
  Spells = λ x ts next. PastSpells closing ts;
  reads = past closing;
}

-- Behind a fault at these tokens, the place of a word that is left out, and what stands behind the
-- mark that closes; or the fault, where it is at no such word.
abbrev pub passed : Operator → List Token → WitReason → Result (ℕ × List Token) Fault
passed closing [] r = Err (flaw [] r)
passed closing (t ∷ ts) r =
    if is_left_out t.form then and_then (past closing ts) (λ p. Ok (t.left, p.1))
    else Err (flaw (t ∷ ts) r)

-- What is read by a grammar; or, where it cannot go on with a word that is left out, the place of
-- that word, and all to the mark that closes is passed over.
abbrev pub kept_from : {A : Type 0} →
    Operator → Result (A × List Token) Fault → Result (Kept A × List Token) Fault
kept_from closing (Ok p) = Ok (kept p.0, p.1)
kept_from closing (Err f) =
    and_then (passed closing f.rest f.reason) (λ p. Ok (left_out p.0, p.1))

-- Tokens with which a grammar goes on up to a word that is left out, and others up to the mark that
-- closes.
pub record PassedOver {A : Type 0} (closing : Operator) (g : Grammar A) (place : ℕ)
    (ts : List Token) : Type 0 where
  pub front : List Token
  pub word : Token
  pub others : List Token
  pub reason : WitReason
  pub parts : ts ≡ front ++ word ∷ others
  pub at : place ≡ word.left
  pub is_word : is_left_out word.form ≡ true
  pub stops : g.reads (front ++ word ∷ []) ≡ Err (flaw (word ∷ []) reason)
  pub over : PastSpells closing others

abbrev pub KeptSpells : {A : Type 0} →
    Operator → Grammar A → Kept A → List Token → Option Token → Type 0
KeptSpells closing g (kept x) ts next = g.Spells x ts next
KeptSpells closing g (left_out place) ts next = PassedOver closing g place ts

abbrev pub or_left_out : {A : Type 0} → Operator → Grammar A → Grammar (Kept A)
or_left_out closing g = record {
  Spells = KeptSpells closing g;
  reads = λ ts. kept_from closing (g.reads ts);
}
