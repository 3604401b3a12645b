-- What stubs are: components that stand in for a host (this project's own choice).
use Rattle.std.specs.Prelude.{◌≡◌, ℕ, ◌-◌, List, [], ◌∷◌, ◌++◌, length, map, slice_get}
use Rattle.std.specs.Option.{option_map_or}
use Rattle.cm_binary_model.specs.Trees.{SectionTree}
use Rattle.cm_validate_model.specs.Spaces.{Spaces, spaces_of}
use Rattle.cm_validate_model.specs.Valid.{IsValid}
use Rattle.cm_match_model.specs.Imports.{LinkSet, seen_by, sees_all}
use Rattle.cm_match_model.specs.Links.{CanBeLinked, plan_of}
use Rattle.cm_stubs.specs.Used.{AreUsed}

-- components whose imports see all exports before them
abbrev pub set_of : List (List SectionTree) → LinkSet
set_of components = seen_by sees_all (map spaces_of components)

-- how many exports a component of a set has
abbrev pub export_count : List Spaces → ℕ → ℕ
export_count set component = option_map_or (λ s. length s.exports) (slice_get set component) 0

-- a valid component that imports nothing
pub record IsProvider (stub : List SectionTree) : Type 0 where
  pub valid : IsValid stub
  pub imports : (spaces_of stub).imports ≡ []

-- a valid component that exports nothing
pub record IsCaller (stub : List SectionTree) : Type 0 where
  pub valid : IsValid stub
  pub exports : (spaces_of stub).exports ≡ []

-- components can be linked, and each export of this one serves an import
pub record LinksWith (set : LinkSet) (component : ℕ) : Type 0 where
  pub linked : CanBeLinked set
  pub used : AreUsed (plan_of set) component (export_count set.spaces component)

-- behind the stub the components can be linked, and each export of the stub serves an import
abbrev pub LinksUnder : List SectionTree → List (List SectionTree) → Type 0
LinksUnder stub components = LinksWith (set_of (stub ∷ components)) 0

-- behind the components the stub can be linked, and it imports each export of the last one
abbrev pub LinksOver : List SectionTree → List (List SectionTree) → Type 0
LinksOver stub components =
    LinksWith (set_of (components ++ stub ∷ [])) (length components - 1)
