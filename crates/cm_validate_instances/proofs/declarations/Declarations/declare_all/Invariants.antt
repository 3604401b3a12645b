use Rattle.std.proofs.Common.{◌≡◌, map, drop}
use Rattle.cm_types.specs.DefTypes.{declaration_tree}
use Rattle.cm_validate_model.specs.Declarations.{after_declarations}
use Rattle.cm_validate_types.specs.TypeScopes.{HasGrown, entries_around}
use Rattle.cm_validate_instances.specs.DeclaredScopes.{first_resource, scope_of, scope_so_far}
use Rattle.cm_validate_instances.specs.FirstFaults.{first_reason}
use Rattle.cm_validate_instances.proofs.declarations.Declarations.declare_all.Given as goal

-- what is to come leads where all lead
abbrev pub invariant-loop-declaration : goal.invariant-loop-declaration
invariant-loop-declaration l = record {
  fault : first_reason (scope_so_far l.self) (map declaration_tree (drop l.declaration-index l.declarations)) ≡ first_reason (scope_so_far l.fn.self) (map declaration_tree l.declarations);
  scope : after_declarations (scope_so_far l.self) (map declaration_tree (drop l.declaration-index l.declarations)) ≡ after_declarations (scope_so_far l.fn.self) (map declaration_tree l.declarations);
  around : (scope_so_far l.self).around ≡ (scope_so_far l.fn.self).around;
  grown : HasGrown (scope_of l.fn.self) (scope_of l.self);
  first : first_resource l.self ≡ first_resource l.fn.self;
  entries : entries_around (scope_of l.self) ≡ entries_around (scope_of l.fn.self);
}
