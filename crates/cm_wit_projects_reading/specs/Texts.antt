-- Whole texts: all of their tokens are one value, or there is a first place from which they cannot
-- go on.
use Rattle.std.specs.Prelude.{◌≡◌, ℕ, ◌⊎◌, List, [], length, Option, Some, None}
use Rattle.std.specs.Prelude.{Result, Ok, Err}
use Rattle.cm_wit_tokens.specs.declared.fault.WitFault.{WitFault}
use Rattle.cm_wit_tokens.specs.declared.fault.WitReason.{WitReason}
use Rattle.cm_wit_tokens.specs.declared.fault.WitReason.TheVariants as reason
use Rattle.cm_wit_tokens.specs.declared.keyword.Keyword.TheVariants as word
use Rattle.cm_wit_tokens.specs.declared.token.Form.{Form}
use Rattle.cm_wit_tokens.specs.declared.token.Form.TheVariants as form
use Rattle.cm_wit_tokens.specs.declared.token.Token.{Token}
use Rattle.cm_wit_tokens.specs.Faults.{Fault, flaw}
use Rattle.cm_wit_tokens.specs.Grammar.{Grammar, IsText}
use Rattle.cm_wit_tokens.specs.Reading.{next_form}
use Rattle.cm_wit_tokens.specs.Whole.{end_fault, IsRefused, place, placed, whole}
use Rattle.cm_wit_projects_tokens.specs.Tokens.{lexed}

-- The reason of a fault, by its token: `include`, and `with`, whose token is that of `from`, are
-- words of forms that are read.
abbrev pub told_reason : Option Form → WitReason → WitReason
told_reason (Some (form.Keyword word.Include)) r = reason.Unexpected
told_reason (Some (form.Keyword word.From)) r = reason.Unexpected
told_reason f r = r

abbrev pub told_fault : Fault → Fault
told_fault f = flaw f.rest (told_reason (next_form f.rest) f.reason)

abbrev pub told : {A : Type 0} → Result A Fault → Result A Fault
told (Ok x) = Ok x
told (Err f) = Err (told_fault f)

-- what a text is by a grammar: its value, or its first fault
abbrev pub source_reads : {A : Type 0} → Grammar A → List ℕ → Result A WitFault
source_reads g text = placed (length text) (lexed text).stop (told (whole g (lexed text).tokens))

-- ---- the same in the terms of the grammar

-- A text of a grammar: tokens to its end that spell the value.
pub record IsSourceOf {A : Type 0} (g : Grammar A) (x : A) (text : List ℕ) : Type 0 where
  pub all : (lexed text).stop ≡ None
  pub spells : IsText g x (lexed text).tokens

-- No blank, comment or token begins at the place.
pub record IsBadTokenIn (text : List ℕ) (e : WitFault) : Type 0 where
  pub left : ℕ
  pub stops : (lexed text).stop ≡ Some left
  pub is : e ≡ end_fault (length text) (Some left)

-- No text of the grammar goes on with the token at the place. At the text's end the tokens are no
-- text.
pub record IsWrongTokenIn {A : Type 0} (g : Grammar A) (text : List ℕ) (e : WitFault) : Type 0 where
  pub rest : List Token
  pub refused : IsRefused g (lexed text).tokens rest
  pub at_end : rest ≡ [] → (lexed text).stop ≡ None
  pub is : e.at ≡ place (length text) rest

-- A fault that is present in a text.
abbrev pub IsSourceFault : {A : Type 0} → Grammar A → List ℕ → WitFault → Type 0
IsSourceFault g text e = IsBadTokenIn text e ⊎ IsWrongTokenIn g text e
