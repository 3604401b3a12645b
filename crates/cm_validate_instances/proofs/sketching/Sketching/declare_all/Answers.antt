use Rattle.std.proofs.Common.{◌∙◌, ap}
use Rattle.cm_types.specs.DefTypes.{declaration_tree}
use Rattle.cm_validate_types.specs.TypeScopes.{own_types}
use Rattle.cm_validate_model.specs.Reasons.{lesser}
use Rattle.cm_validate_instances.specs.Sketchings.{scope_sketched}
use Rattle.cm_validate_instances.proofs.PassLaws.{fault_on, scope_on}
use Rattle.cm_validate_instances.proofs.sketching.Sketching.declare_all.Goals as goal

pub loop-declaration-preserved : goal.loop-declaration-preserved
loop-declaration-preserved c =
    let around = own_types c.args.component.now in
    let s = scope_sketched c.loop-declaration.self in
    let t = scope_sketched c.declare.new.self in
    record {
      fault = fault_on declaration_tree around c.args.declarations.now c.loop-declaration.declaration-index c.declaration-item.result c.loop-declaration-test.true c.declaration-item.is c.least_of_both.ensures s t c.loop-declaration.fault c.lesser-fault.result _ c.in_ok-declare.ensures.declared
          (c.lesser-fault.ensures ∙ ap (lesser c.loop-declaration.fault) c.in_ok-declare.ensures.fault) c.loop-declaration.invariant.fault;
      scope = scope_on declaration_tree around c.args.declarations.now c.loop-declaration.declaration-index c.declaration-item.result c.loop-declaration-test.true c.declaration-item.is s t _ c.in_ok-declare.ensures.declared c.loop-declaration.invariant.scope;
    }
