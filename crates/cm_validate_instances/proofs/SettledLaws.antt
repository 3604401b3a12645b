-- What moves brought into the type of an instance, once its declarations are read.
use Rattle.std.proofs.Common.{◌≡◌, ℕ, List, sym, subst, ◌∙◌}
use Rattle.std.specs.List.{AllByRecursion}
use Rattle.cm_validate_model.specs.CountedSpaces.{IsDefCounted}
use Rattle.cm_validate_model.specs.Definitions.{TypeDef}
use Rattle.cm_validate_types.specs.declared.scope.TypeScope.{TypeScope}
use Rattle.cm_validate_types.specs.SettledScopes.{AreSettled}
use Rattle.cm_validate_types.specs.TypeScopes.{HasGrown, entries_around, entries_of, types_around}
use Rattle.cm_validate_instances.specs.declared.declarations.Declarations.{Declarations}
use Rattle.cm_validate_instances.specs.CountedAround.{AreCountedAround}
use Rattle.cm_validate_instances.specs.DeclaredScopes.{first_resource, scope_of}

-- the types around are those of the component
pub counted_around : (types : List TypeDef) (next : ℕ) (d : Declarations) → types_around (scope_of d) ≡ types → first_resource d ≡ next → AllByRecursion (IsDefCounted next) types → AreCountedAround (first_resource d) (scope_of d)
counted_around types next d around first a =
    subst (λ n. AllByRecursion (IsDefCounted n) (types_around (scope_of d))) (sym first) (subst (AllByRecursion (IsDefCounted next)) (sym around) a)

abbrev pub ScopesStay : Type 0
ScopesStay = (old new : TypeScope) → HasGrown old new → entries_of new ≡ entries_of old → AreSettled old → AreSettled new

-- the entries of the component are what they were
pub settled_after : ScopesStay → (component new : TypeScope) (before after : Declarations) → HasGrown component new → entries_around (scope_of before) ≡ entries_of component
    → entries_around (scope_of after) ≡ entries_around (scope_of before) → entries_of new ≡ entries_around (scope_of after) → AreSettled component → AreSettled new
settled_after law component new before after grown p q r a = law component new grown (r ∙ q ∙ p) a
