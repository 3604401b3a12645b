-- What it is that reading by a grammar of tokens is exact.
use Rattle.std.specs.Prelude.{◌≡◌, ◌<◌, List, ◌∷◌, ◌++◌, length, Ok, Err}
use Rattle.cm_wit_tokens.specs.declared.token.Token.{Token}
use Rattle.cm_wit_tokens.specs.declared.fault.WitReason.{WitReason}
use Rattle.cm_wit_tokens.specs.Faults.{Fault, flaw}
use Rattle.cm_wit_tokens.specs.Grammar.{first, Grammar}

-- A spelling of x in front, and the rest.
pub record Takes {A : Type 0} (g : Grammar A) (x : A) (ts rest : List Token) : Type 0 where
  pub front : List Token
  pub spells : g.Spells x front (first rest)
  pub parts : ts ≡ front ++ rest

-- The rest of some tokens.
pub record IsRest (ts rest : List Token) : Type 0 where
  pub front : List Token
  pub parts : ts ≡ front ++ rest

-- Reading is exact: what is read is spelled, what is spelled is read, a fault is inside the tokens,
-- and it is the same fault whatever follows the token at its place.
pub record Lawful {A : Type 0} (g : Grammar A) : Type 0 where
  pub takes : (ts : List Token) (x : A) (rest : List Token)
      → g.reads ts ≡ Ok (x, rest) → Takes g x ts rest
  pub again : (x : A) (front rest : List Token) → g.Spells x front (first rest)
      → g.reads (front ++ rest) ≡ Ok (x, rest)
  pub within : (ts : List Token) (f : Fault) → g.reads ts ≡ Err f → IsRest ts f.rest
  pub early : (front after : List Token) (t : Token) (r : WitReason)
      → g.reads (front ++ t ∷ after) ≡ Err (flaw (t ∷ after) r)
      → (more : List Token) → g.reads (front ++ t ∷ more) ≡ Err (flaw (t ∷ more) r)

-- Reading takes a token at least.
abbrev pub Shortens : {A : Type 0} → Grammar A → Type 0
Shortens {A} g = (ts : List Token) (x : A) (rest : List Token)
    → g.reads ts ≡ Ok (x, rest) → length rest < length ts
