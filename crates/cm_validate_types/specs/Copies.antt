-- Types of an arena that are copied within it, with the resources in them replaced.
use Rattle.std.specs.Prelude.{◌≡◌, ℕ, ◌<◌, ◌≤◌, ◌++◌, ⊤, true, List, [], ◌∷◌, Option, Some, None}
use Rattle.std.specs.Prelude.{is_some, length, map}
use Rattle.std.specs.List.{AllByRecursion}
use Rattle.cm_types.specs.Types.{Ty}
use Rattle.cm_types_arena.specs.TypeDefs.{type_at}
use Rattle.cm_types_arena.specs.Replaced.{Standing, replaced}

-- a list begins with all of another
abbrev pub BeginsWith : List Ty → List Ty → Type 0
BeginsWith types front = (more : List Ty) × (types ≡ front ++ more)

-- Among these types, at one place stands the type of another place with its resources replaced.
pub record IsCopy (s : Standing) (types : List Ty) (place copy : ℕ) : Type 0 where
  pub place_there : place < length types
  pub copy_there : copy < length types
  pub ty : type_at types copy ≡ replaced s (type_at types place)

-- a table gives copies of places alone
abbrev pub AreCopies : Standing → List Ty → (ℕ → Option ℕ) → Type 0
AreCopies s types copy_of = (place copy : ℕ) → copy_of place ≡ Some copy
    → IsCopy s types place copy

-- ---- each place is copied once

-- no two of these places are the same
abbrev pub AreDistinct : List ℕ → Type 0
AreDistinct [] = ⊤
AreDistinct (p ∷ ps) = AllByRecursion (λ q. p ≡ q → ⊥) ps × AreDistinct ps

-- What stands behind the types that were there are copies of the types of some of their places, all
-- different and all below a number.
pub record AddsOnce (s : Standing) (old new : List Ty) (bound : ℕ) : Type 0 where
  pub sources : List ℕ
  pub added : new ≡ old ++ map (λ p. replaced s (type_at old p)) sources
  pub distinct : AreDistinct sources
  pub below : AllByRecursion (λ p. p < bound) sources

-- These are such copies where a table had none of these places, and has them now beside those that
-- it had; those from the number on are as they were.
pub record CopiesOnce (s : Standing) (old new : List Ty) (before after : ℕ → Option ℕ) (bound : ℕ)
    : Type 0 where
  pub once : AddsOnce s old new bound
  pub fresh : AllByRecursion (λ p. before p ≡ None) once.sources
  pub known : AllByRecursion (λ p. is_some (after p) ≡ true) once.sources
  pub kept : (q : ℕ) → is_some (before q) ≡ true → is_some (after q) ≡ true
  pub above : (q : ℕ) → bound ≤ q → after q ≡ before q
