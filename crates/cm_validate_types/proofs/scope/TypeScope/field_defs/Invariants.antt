use Rattle.std.proofs.Common.{◌≡◌, ◌<◌, length, map, take}
use Rattle.std.specs.List.{AllByRecursion}
use Rattle.cm_types_arena.specs.TypeDefs.{field_def_type}
use Rattle.cm_validate_types.specs.Expansion.{labeled_or_bool}
use Rattle.cm_validate_types.specs.TypeScopes.{arena_types, unmoved_types}
use Rattle.cm_validate_types.proofs.scope.TypeScope.field_defs.Given as goal

-- those that are made so far are of what was read so far
abbrev pub invariant-loop-field : goal.invariant-loop-field
invariant-loop-field l = record {
  there : AllByRecursion (λ d. d.ty < length (arena_types l.self)) l.defs.items;
  types : map (field_def_type (arena_types l.self)) l.defs.items ≡ map (labeled_or_bool (unmoved_types l.self)) (take l.field-index l.fields);
}
