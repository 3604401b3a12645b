use Rattle.std.proofs.Common.{◌≡◌, length, map, take}
use Rattle.std.specs.List.{AllByRecursion}
use Rattle.cm_types_arena.specs.TypeDefs.{IsBelow, case_def_type}
use Rattle.cm_validate_types.specs.Expansion.{case_or_bool}
use Rattle.cm_validate_types.specs.TypeScopes.{arena_types, unmoved_types}
use Rattle.cm_validate_types.proofs.scope.TypeScope.case_defs.Given as goal

-- those that are made so far are of what was read so far
abbrev pub invariant-loop-case : goal.invariant-loop-case
invariant-loop-case l = record {
  there : AllByRecursion (λ d. IsBelow (length (arena_types l.self)) d.payload) l.defs.items;
  types : map (case_def_type (arena_types l.self)) l.defs.items ≡ map (case_or_bool (unmoved_types l.self)) (take l.case-index l.cases);
}
