use Rattle.std.proofs.Common.{◌↔◌, IfOk, IsTrue, sym, subst}
use Rattle.cm_validate_model.specs.Spaces.{Spaces}
use Rattle.cm_validate_spaces.specs.IndexSpaces.{IsAt}
use Rattle.cm_shims_plain.specs.declared.wants.Want.{Want}
use Rattle.cm_shims.specs.Fitting.{Holds}
use Rattle.cm_shims.proofs.judge.Tables.holds.Goals as goal

pub returns-in-Func-clause-holds : goal.returns-in-Func-clause-holds
returns-in-Func-clause-holds c =
    subst (λ (w : Want). IfOk c.has_type.result (λ holds. (s : Spaces) → IsAt c.args.spaces.now s → IsTrue holds ↔ Holds s w)) (sym c.in-Func.is) c.has_type.ensures.holds

pub returns-in-Type-clause-holds : goal.returns-in-Type-clause-holds
returns-in-Type-clause-holds c =
    subst (λ (w : Want). IfOk c.are_equal.result (λ holds. (s : Spaces) → IsAt c.args.spaces.now s → IsTrue holds ↔ Holds s w)) (sym c.in-Type.is) c.are_equal.ensures.holds

pub returns-in-Resource-clause-holds : goal.returns-in-Resource-clause-holds
returns-in-Resource-clause-holds c =
    subst (λ (w : Want). (s : Spaces) → IsAt c.args.spaces.now s → IsTrue c.is_resource.result ↔ Holds s w) (sym c.in-Resource.is) c.is_resource.ensures
