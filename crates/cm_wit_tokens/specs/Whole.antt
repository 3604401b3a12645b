-- Whole texts: all of their tokens are one value, or there is a first place from which they cannot
-- go on.
use Rattle.std.specs.Prelude.{◌≡◌, ℕ, ◌-◌, ◌⊎◌, List, [], ◌∷◌, ◌++◌, length, Option, Some, None}
use Rattle.std.specs.Prelude.{Result, Ok, Err, MatchResult}
use Rattle.cm_wit_tokens.specs.declared.token.Token.{Token}
use Rattle.cm_wit_tokens.specs.Tokens.{lexed}
use Rattle.cm_wit_tokens.specs.declared.fault.WitReason.{WitReason}
use Rattle.cm_wit_tokens.specs.declared.fault.WitReason.TheVariants as reason
use Rattle.cm_wit_tokens.specs.declared.fault.WitFault.{WitFault}
use Rattle.cm_wit_tokens.specs.declared.fault.ReadError.{ReadError}
use Rattle.cm_wit_tokens.specs.Faults.{Fault, flaw, and_then, Fails}
use Rattle.cm_wit_tokens.specs.Grammar.{Grammar, IsText}
use Rattle.cm_wit_tokens.specs.Parts.{other_fault}
use Rattle.cm_wit_tokens.specs.Reading.{next_left}

-- ---- tokens to their end

-- the value, where no token is left behind it
abbrev pub to_end : {A : Type 0} → A → List Token → Result A Fault
to_end x [] = Ok x
to_end x (t ∷ ts) = Err (flaw (t ∷ ts) (other_fault t.form))

-- the value that all of the tokens are
abbrev pub whole : {A : Type 0} → Grammar A → List Token → Result A Fault
whole g ts = and_then (g.reads ts) (λ p. to_end p.0 p.1)

-- What a function answered is the value that all of the tokens are, seen by view.
abbrev pub GivesAll : {A X : Type 0} →
    (X → A) → List Token → Result X ReadError → Result A Fault → Type 0
GivesAll view left (Ok x) read = read ≡ Ok (view x)
GivesAll view left (Err e) read = Fails left e read

-- ---- the value or the fault of a text

-- the place of a fault, counted from the text's first byte: that of its token, or the place where
-- no token begins, or else the text's end
abbrev pub end_fault : ℕ → Option ℕ → WitFault
end_fault size None = record { at = size; reason = reason.Unexpected }
end_fault size (Some left) = record { at = size - left; reason = reason.BadToken }

abbrev pub place_fault : ℕ → Option ℕ → Option ℕ → WitReason → WitFault
place_fault size stop None r = end_fault size stop
place_fault size stop (Some left) r = record { at = size - left; reason = r }

-- the value, where the text is tokens to its end
abbrev pub at_stop : {A : Type 0} → ℕ → Option ℕ → A → Result A WitFault
at_stop size None x = Ok x
at_stop size (Some left) x = Err (end_fault size (Some left))

abbrev pub placed : {A : Type 0} → ℕ → Option ℕ → Result A Fault → Result A WitFault
placed size stop (Ok x) = at_stop size stop x
placed size stop (Err f) = Err (place_fault size stop (next_left f.rest) f.reason)

-- what a text is by a grammar: its value, or its first fault
abbrev pub text_reads : {A : Type 0} → Grammar A → List ℕ → Result A WitFault
text_reads g text = placed (length text) (lexed text).stop (whole g (lexed text).tokens)

-- want of memory
abbrev pub IsMemory : WitFault → Type 0
IsMemory e = e.reason ≡ reason.Memory

-- A function answered what a text is by a grammar, seen by view, or that memory was refused.
abbrev pub Answers : {A X : Type 0} →
    (X → A) → Result A WitFault → Result X WitFault → Type 0
Answers view wanted result =
    MatchResult result (λ x. wanted ≡ Ok (view x)) (λ e. IsMemory e ⊎ (wanted ≡ Err e))

-- ---- the same in the terms of the grammar

-- A text of a grammar: tokens to its end that spell the value.
pub record IsTextOf {A : Type 0} (g : Grammar A) (x : A) (text : List ℕ) : Type 0 where
  pub all : (lexed text).stop ≡ None
  pub spells : IsText g x (lexed text).tokens

-- No text of the grammar begins with the tokens in front and the first of the rest. Where there is
-- no rest, the tokens in front are no text.
abbrev pub CannotStand : {A : Type 0} → Grammar A → List Token → List Token → Type 0
CannotStand g front [] = (x : _) → IsText g x front → ⊥
CannotStand g front (t ∷ ts) = (x : _) (more : List Token) → IsText g x (front ++ t ∷ more) → ⊥

-- The tokens are refused from this rest on.
pub record IsRefused {A : Type 0} (g : Grammar A) (tokens rest : List Token) : Type 0 where
  pub front : List Token
  pub parts : tokens ≡ front ++ rest
  pub cannot : CannotStand g front rest

-- The place of this rest of a text's tokens: of its first one, or the text's end.
abbrev pub place : ℕ → List Token → ℕ
place size [] = size
place size (t ∷ ts) = size - t.left

-- No blank, comment or token begins at the place.
pub record IsBadToken (text : List ℕ) (e : WitFault) : Type 0 where
  pub left : ℕ
  pub stops : (lexed text).stop ≡ Some left
  pub is : e ≡ end_fault (length text) (Some left)

-- No text of the grammar goes on with the token at the place. At the text's end the tokens are no
-- text.
pub record IsWrongToken {A : Type 0} (g : Grammar A) (text : List ℕ) (e : WitFault) : Type 0 where
  pub rest : List Token
  pub refused : IsRefused g (lexed text).tokens rest
  pub at_end : rest ≡ [] → (lexed text).stop ≡ None
  pub is : e.at ≡ place (length text) rest

-- A fault that is present in a text.
abbrev pub IsFaultOf : {A : Type 0} → Grammar A → List ℕ → WitFault → Type 0
IsFaultOf g text e = IsBadToken text e ⊎ IsWrongToken g text e
