use Rattle.std.proofs.Common.{sym, ap, ◌∙◌, List}
use Rattle.cm_types.specs.DefTypes.{func_type_tree}
use Rattle.cm_validate_model.specs.declared.sorts.TypeSort.{TypeSort}
use Rattle.cm_validate_model.specs.Definitions.{sorts_of}
use Rattle.cm_validate_model.specs.Reasons.{least}
use Rattle.cm_validate_model.specs.TypeRules.{uses_broken}
use Rattle.cm_validate_types.specs.TypeScopes.{own_types}
use Rattle.cm_validate_types.proofs.LimitLaws.{uses_first}
use Rattle.cm_validate_types.proofs.scope.TypeScope.define_func.Goals as goal
use Rattle.cm_validate_model.proofs.ReasonsLaws.{none_broken}

pub returns-in-Some-clause-fault : goal.returns-in-Some-clause-fault
returns-in-Some-clause-fault c =
    let f = func_type_tree c.args.def.now in
    let e = c.uses_fault.ensures ∙ ap (λ (ss : List TypeSort). least (uses_broken ss f)) c.sorts.ensures in
    sym (uses_first c.least_of_both.ensures (own_types c.args.self.now) f c.in-Some.fault (sym e ∙ c.in-Some.is))

pub define_used-requires : goal.define_used-requires
define_used-requires c =
    let f = func_type_tree c.args.def.now in
    let e = c.uses_fault.ensures ∙ ap (λ (ss : List TypeSort). least (uses_broken ss f)) c.sorts.ensures in
    record { uses = none_broken (uses_broken (sorts_of (own_types c.args.self.now)) f) (sym e ∙ c.in-None.is) }
