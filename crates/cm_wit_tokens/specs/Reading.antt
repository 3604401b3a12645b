-- What code that reads by a grammar says of itself.
use Rattle.std.specs.Prelude.{ℕ, List, [], ◌∷◌, Option, Some, None, Result}
use Rattle.cm_wit_tokens.specs.declared.token.Token.{Token}
use Rattle.cm_wit_tokens.specs.declared.token.Form.{Form}
use Rattle.cm_wit_tokens.specs.declared.fault.ReadError.{ReadError}
use Rattle.cm_wit_tokens.specs.Faults.{Gives}
use Rattle.cm_wit_tokens.specs.Grammar.{Grammar}

-- what the next token is
abbrev pub next_form : List Token → Option Form
next_form [] = None
next_form (t ∷ ts) = Some t.form

-- how many bytes of the text are left from the next token on
abbrev pub next_left : List Token → Option ℕ
next_left [] = None
next_left (t ∷ ts) = Some t.left

-- What was read between these two states of a cursor is what the grammar gives, seen by view.
abbrev pub Reads : {A X : Type 0} →
    Grammar A → (X → A) → List Token → List Token → Result X ReadError → Type 0
Reads g view old new r = Gives view new r (g.reads old)
