-- The imports of a set before one of them (how components are linked is this project's own choice).
use Rattle.std.specs.Prelude.{ℕ, List, [], ◌++◌, slice_get, take}
use Rattle.std.specs.List.{AllByRecursion}
use Rattle.std.specs.Option.{option_map_or}
use Rattle.cm_validate_model.specs.Spaces.{Spaces}
use Rattle.cm_match_model.specs.Imports.{ImportAt, LinkSet, all_imports_from, imports_from}
use Rattle.cm_match_model.specs.Links.{IsServed}

-- the imports of one component
abbrev pub imports_at : List Spaces → ℕ → List ImportAt
imports_at set component =
    option_map_or (λ s. imports_from component 0 s.imports) (slice_get set component) []

-- those of the components before one, and so many of its own
abbrev pub imports_before : List Spaces → ℕ → ℕ → List ImportAt
imports_before set component number =
    all_imports_from 0 (take component set) ++ take number (imports_at set component)

-- all imports before one are served
abbrev pub AreServedBefore : LinkSet → ℕ → ℕ → Type 0
AreServedBefore set component number =
    AllByRecursion (IsServed set) (imports_before set.spaces component number)
