-- The types of the component around the type of an instance (Explainer.md, "Alias Definitions").
use Rattle.std.specs.Prelude.{ℕ}
use Rattle.std.specs.List.{AllByRecursion}
use Rattle.cm_validate_model.specs.CountedSpaces.{IsDefCounted}
use Rattle.cm_validate_types.specs.declared.scope.TypeScope.{TypeScope}
use Rattle.cm_validate_types.specs.TypeScopes.{types_around}

-- each type of the component around names only resources of a number before this one
abbrev pub AreCountedAround : ℕ → TypeScope → Type 0
AreCountedAround n s = AllByRecursion (IsDefCounted n) (types_around s)
