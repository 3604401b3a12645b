use Rattle.std.proofs.Common.{◌≡◌, ◌<◌, length, map, take}
use Rattle.std.specs.List.{AllByRecursion}
use Rattle.cm_types_arena.specs.TypeDefs.{type_at}
use Rattle.cm_validate_types.specs.Expansion.{value_or_bool}
use Rattle.cm_validate_types.specs.TypeScopes.{arena_types, unmoved_types}
use Rattle.cm_validate_types.proofs.scope.TypeScope.places.Given as goal

-- those that are made so far are of what was read so far
abbrev pub invariant-loop-ty : goal.invariant-loop-ty
invariant-loop-ty l = record {
  there : AllByRecursion (λ p. p < length (arena_types l.self)) l.places.items;
  types : map (type_at (arena_types l.self)) l.places.items ≡ map (value_or_bool (unmoved_types l.self)) (take l.ty-index l.types);
}
