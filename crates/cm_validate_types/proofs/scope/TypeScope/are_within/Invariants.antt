use Rattle.std.proofs.Common.{◌≡◌, ◌≤◌, take}
use Rattle.cm_types.specs.declared.limits.TheConstants.{MAX_NODES}
use Rattle.cm_validate_types.specs.TypeScopes.{own_types}
use Rattle.cm_validate_types.specs.Uses.{nodes_together}
use Rattle.cm_validate_types.proofs.scope.TypeScope.are_within.Given as goal

-- those so far have so many nodes, which are not too many
abbrev pub invariant-loop-ty : goal.invariant-loop-ty
invariant-loop-ty l = record {
  nodes : l.nodes ≡ nodes_together (own_types l.self) (take l.ty-index l.uses);
  few : l.nodes ≤ MAX_NODES;
}
