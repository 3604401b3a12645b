use Rattle.std.proofs.Common.{sym, ap, ◌∙◌, List}
use Rattle.cm_types.specs.DefTypes.{def_val_type_tree}
use Rattle.cm_validate_model.specs.declared.sorts.TypeSort.{TypeSort}
use Rattle.cm_validate_model.specs.Definitions.{sorts_of}
use Rattle.cm_validate_model.specs.Reasons.{least}
use Rattle.cm_validate_model.specs.TypeRules.{parts_broken}
use Rattle.cm_validate_types.specs.TypeScopes.{own_types}
use Rattle.cm_validate_types.proofs.LimitLaws.{parts_first}
use Rattle.cm_validate_types.proofs.scope.TypeScope.define_value.Goals as goal
use Rattle.cm_validate_model.proofs.ReasonsLaws.{none_broken}

pub returns-in-Some-clause-fault : goal.returns-in-Some-clause-fault
returns-in-Some-clause-fault c =
    let v = def_val_type_tree c.args.def.now in
    let e = c.in_ok-fault.ensures ∙ ap (λ (ss : List TypeSort). least (parts_broken ss v)) c.sorts.ensures in
    sym (parts_first c.least_of_both.ensures (own_types c.args.self.now) v c.in-Some.fault (sym e ∙ c.in-Some.is))

pub define_parts-requires : goal.define_parts-requires
define_parts-requires c =
    let v = def_val_type_tree c.args.def.now in
    let e = c.in_ok-fault.ensures ∙ ap (λ (ss : List TypeSort). least (parts_broken ss v)) c.sorts.ensures in
    record { parts = none_broken (parts_broken (sorts_of (own_types c.args.self.now)) v) (sym e ∙ c.in-None.is) }
