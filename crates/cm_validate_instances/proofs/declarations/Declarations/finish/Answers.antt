use Rattle.std.proofs.Common.{sym, subst}
use Rattle.cm_validate_types.specs.Settled.{AreItemsSettled}
use Rattle.cm_validate_types.specs.TypeScopes.{arena_funcs, arena_types}
use Rattle.cm_validate_instances.proofs.PropLaws.{items_known}
use Rattle.cm_validate_instances.proofs.declarations.Declarations.finish.Goals as goal

pub returns-clause-settled : goal.returns-clause-settled
returns-clause-settled c = λ a.
    let d = c.args.self in
    subst (λ ts. AreItemsSettled ts (arena_funcs c.leave.result) d.first d.items.items) (sym c.leave.ensures.types)
    (subst (λ fs. AreItemsSettled (arena_types d.scope) fs d.first d.items.items) (sym c.leave.ensures.funcs) (items_known d.first d.scope d.items.items d.items_settled a))
