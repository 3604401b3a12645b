-- Lists of things of one grammar (WIT.md, "Packages and Worlds").
use Rattle.std.specs.Prelude.{ℕ, zero, suc, Bool, not, List, [], ◌∷◌, Option, Some, None}
use Rattle.cm_wit_tokens.specs.declared.operator.Operator.{Operator}
use Rattle.cm_wit_tokens.specs.declared.operator.Operator.TheVariants as operator
use Rattle.cm_wit_tokens.specs.declared.token.Form.{Form}
use Rattle.cm_wit_tokens.specs.Forms.{is_operator}
use Rattle.cm_wit_tokens.specs.Grammar.{Grammar, done, ◌>>=◌, chosen, steps}
use Rattle.cm_wit_tokens.specs.Parts.{expect}

-- a comma and one more thing, where they stand; before the mark that closes the list the comma may
-- stand alone
abbrev pub next_item : {A : Type 0} → Operator → Grammar A → Grammar (Option A)
next_item closing g =
    chosen (is_operator operator.Comma)
    (expect operator.Comma >>= λ _.
    chosen (is_operator closing) (done None) (g >>= λ x. done (Some x)))
    (done None)

-- x {`,` x} [`,`], before the mark that closes the list
abbrev pub items : {A : Type 0} → Operator → Grammar A → Grammar (List A)
items closing g = g >>= λ x. steps (next_item closing g) >>= λ xs. done (x ∷ xs)

-- the things behind commas, of which there are so many at most
abbrev pub and_more : {A : Type 0} → Grammar (List A) → Option A → Grammar (List A)
and_more more None = done []
and_more more (Some x) = more >>= λ xs. done (x ∷ xs)

abbrev pub last_comma : Grammar (Unit {0})
last_comma = chosen (is_operator operator.Comma) (expect operator.Comma) (done tt)

unfoldable pub at_most : {A : Type 0} → ℕ → Operator → Grammar A → Grammar (List A)
at_most zero closing g = last_comma >>= λ _. done []
at_most (suc n) closing g = next_item closing g >>= λ o. and_more (at_most n closing g) o

-- x {`,` x} [`,`], with so many more behind the first at most
abbrev pub items_and : {A : Type 0} → ℕ → Operator → Grammar A → Grammar (List A)
items_and n closing g = g >>= λ x. at_most n closing g >>= λ xs. done (x ∷ xs)

-- one more thing, but before a `}` and at the end of the tokens
abbrev pub is_member : Form → Bool
is_member f = not (is_operator operator.RightBrace f)

abbrev pub next_member : {A : Type 0} → Grammar A → Grammar (Option A)
next_member g = chosen is_member (g >>= λ x. done (Some x)) (done None)

-- {x}, up to a `}` or to the end of the tokens
abbrev pub members : {A : Type 0} → Grammar A → Grammar (List A)
members g = steps (next_member g)
