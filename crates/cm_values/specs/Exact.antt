-- What it is that reading by a grammar of texts is exact.
use Rattle.std.specs.Prelude.{◌≡◌, ◌<◌, ℕ, List, ◌++◌, length, Ok, Option, Some}
use Rattle.cm_values.specs.Grammar.{first, Grammar}

-- A spelling of x in front, and the rest.
pub record Takes {A : Type 0} (g : Grammar A) (x : A) (bytes rest : List ℕ) : Type 0 where
  pub front : List ℕ
  pub spells : g.Spells x front (first rest)
  pub parts : bytes ≡ front ++ rest

-- Reading is exact: what is read is spelled, and what is spelled is read.
pub record Lawful {A : Type 0} (g : Grammar A) : Type 0 where
  pub takes : (bytes : List ℕ) (x : A) (rest : List ℕ)
      → g.reads bytes ≡ Ok (x, rest) → Takes g x bytes rest
  pub again : (x : A) (front rest : List ℕ) → g.Spells x front (first rest)
      → g.reads (front ++ rest) ≡ Ok (x, rest)

-- Each step that gives a value takes a byte.
abbrev pub Moves : {A : Type 0} → Grammar (Option A) → Type 0
Moves g = (bytes : List ℕ) (x : _) (rest : List ℕ)
    → g.reads bytes ≡ Ok (Some x, rest) → length rest < length bytes
