-- Grammars of tokens: which tokens spell a value, before which next token, and what is the first
-- fault of tokens that do not begin with a spelling. A grammar is built from steps, and each step
-- says both, so the two cannot part.
use Rattle.std.specs.Prelude.{◌≡◌, ℕ, zero, suc, ◌⊎◌, Bool, true, false, if◌then◌else◌}
use Rattle.std.specs.Prelude.{List, [], ◌∷◌, ◌++◌, length, Option, Some, None, Result, Ok, Err}
use Rattle.cm_wit_tokens.specs.declared.token.Token.{Token}
use Rattle.cm_wit_tokens.specs.declared.token.Form.{Form}
use Rattle.cm_wit_tokens.specs.declared.fault.WitReason.{WitReason}
use Rattle.cm_wit_tokens.specs.declared.fault.WitReason.TheVariants as reason
use Rattle.cm_wit_tokens.specs.Faults.{Fault, flaw, and_then}

-- the first token, if there is one
abbrev pub first : List Token → Option Token
first [] = None
first (t ∷ ts) = Some t

-- the first token of some tokens before this next one
abbrev pub first_or : List Token → Option Token → Option Token
first_or [] next = next
first_or (t ∷ ts) next = Some t

-- Values that stand at the front of tokens. `Spells x ts next`: the tokens are a spelling of x
-- where next is the token behind them (none: the text ends). `reads` gives the value at the front
-- and the tokens behind it, or the first fault.
pub record Grammar (A : Type 0) : Type 1 where
  pub Spells : A → List Token → Option Token → Type 0
  pub reads : List Token → Result (A × List Token) Fault

-- The value x, of no tokens.
abbrev pub done : {A : Type 0} → A → Grammar A
done x = record {
  Spells = λ y ts next. (y ≡ x) × (ts ≡ []);
  reads = λ ts. Ok (x, ts);
}

-- One thing, and then another that may depend on it.
infixl 10 ◌>>=◌
abbrev pub ◌>>=◌ : {A B : Type 0} → Grammar A → (A → Grammar B) → Grammar B
g >>= h = record {
  Spells = λ y ts next.
      (x : _) × (front : List Token) × (rest : List Token)
      × g.Spells x front (first_or rest next) × (h x).Spells y rest next × (ts ≡ front ++ rest);
  reads = λ ts. and_then (g.reads ts) (λ x. (h x.0).reads x.1);
}

-- A token of a table, which says what the token stands for, or what is wrong with it. Where no
-- token is left one is wanted.
abbrev pub taken : {K : Type 0} →
    Token → List Token → Result K WitReason → Result (K × List Token) Fault
taken t ts (Ok k) = Ok (k, ts)
taken t ts (Err r) = Err (flaw (t ∷ ts) r)

abbrev pub token_reads : {K : Type 0} →
    (Form → Result K WitReason) → List Token → Result (K × List Token) Fault
token_reads table [] = Err (flaw [] reason.Unexpected)
token_reads table (t ∷ ts) = taken t ts (table t.form)

abbrev pub token : {K : Type 0} → (Form → Result K WitReason) → Grammar K
token table = record {
  Spells = λ k ts next. (t : Token) × (ts ≡ t ∷ []) × (table t.form ≡ Ok k);
  reads = token_reads table;
}

-- whether there is a next token, and it passes the test
abbrev pub passes : (Form → Bool) → Option Token → Bool
passes test None = false
passes test (Some t) = test t.form

-- The next token chooses: g where it passes the test, else h.
abbrev pub chosen : {A : Type 0} → (Form → Bool) → Grammar A → Grammar A → Grammar A
chosen test g h = record {
  Spells = λ x ts next.
      ((passes test (first_or ts next) ≡ true) × g.Spells x ts next)
      ⊎ ((passes test (first_or ts next) ≡ false) × h.Spells x ts next);
  reads = λ ts. if passes test (first ts) then g.reads ts else h.reads ts;
}

-- Steps one after the other, each of which gives a value, up to one that gives none.
abbrev pub StepsSpell : {A : Type 0} →
    Grammar (Option A) → List A → List Token → Option Token → Type 0
StepsSpell g [] ts next = g.Spells None ts next
StepsSpell g (x ∷ xs) ts next =
    (front : List Token) × (rest : List Token)
    × g.Spells (Some x) front (first_or rest next)
    × StepsSpell g xs rest next × (ts ≡ front ++ rest)

abbrev pub with_front : {A : Type 0} →
    List A → Result (List A × List Token) Fault → Result (List A × List Token) Fault
with_front xs read = and_then read (λ p. Ok (xs ++ p.0, p.1))

abbrev pub after_step : {A : Type 0} →
    (List Token → Result (List A × List Token) Fault) →
    Option A → List Token → Result (List A × List Token) Fault
after_step more None ts = Ok ([], ts)
after_step more (Some x) ts = with_front (x ∷ []) (more ts)

-- in so many turns, each of which takes a token at least
unfoldable pub steps_in : {A : Type 0} →
    Grammar (Option A) → ℕ → List Token → Result (List A × List Token) Fault
steps_in g zero ts = Err (flaw ts reason.Unexpected)
steps_in g (suc turns) ts = and_then (g.reads ts) (λ p. after_step (steps_in g turns) p.0 p.1)

abbrev pub steps : {A : Type 0} → Grammar (Option A) → Grammar (List A)
steps g = record {
  Spells = StepsSpell g;
  reads = λ ts. steps_in g (suc (length ts)) ts;
}

-- A text: tokens to the end.
abbrev pub IsText : {A : Type 0} → Grammar A → A → List Token → Type 0
IsText g x ts = g.Spells x ts None
