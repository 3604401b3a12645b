use Rattle.std.proofs.Common.{◌≡◌, map, drop}
use Rattle.cm_types.specs.DefTypes.{declaration_tree}
use Rattle.cm_validate_types.specs.TypeScopes.{own_types}
use Rattle.cm_validate_model.specs.Reasons.{least, lesser}
use Rattle.cm_validate_instances.specs.SketchScopes.{after_all_sketched, declarations_faults}
use Rattle.cm_validate_instances.specs.Sketchings.{scope_sketched}
use Rattle.cm_validate_instances.proofs.sketching.Sketching.declare_all.Given as goal

-- what was met and what is to come is what all break, and what is to come leads where all lead
abbrev pub invariant-loop-declaration : goal.invariant-loop-declaration
invariant-loop-declaration l = record {
  fault : lesser l.fault (least (declarations_faults (own_types l.component) (scope_sketched l.self) (map declaration_tree (drop l.declaration-index l.declarations))))
      ≡ least (declarations_faults (own_types l.component) (scope_sketched l.fn.self) (map declaration_tree l.declarations));
  scope : after_all_sketched (own_types l.component) (scope_sketched l.self) (map declaration_tree (drop l.declaration-index l.declarations))
      ≡ after_all_sketched (own_types l.component) (scope_sketched l.fn.self) (map declaration_tree l.declarations);
}
