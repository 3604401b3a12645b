use Rattle.std.proofs.Common.{Some, arith, refl, sym, ◌∙◌}
use Rattle.cm_binary_model.specs.Trees.{lift}
use Rattle.cm_validate_canons.specs.Types.{funcs_in, types_in}
use Rattle.cm_validate_canons.proofs.AnswerLaws.{added_answer, faulty_answer}
use Rattle.cm_validate_canons.proofs.ReasonLaws.{never_untyped}
use Rattle.cm_validate_canons.proofs.lifts.add_lift.Goals as goal
use Rattle.cm_lemmas.proofs.Options.{is_none}

pub returns-then-is_some-clause-answer : goal.returns-then-is_some-clause-answer
returns-then-is_some-clause-answer c =
    faulty_answer c.args.types.now (lift c.args.core_func c.args.options.now c.args.ty) c.args.core.now c.args.component.now c.lift_fault-fault.result (sym c.is_some.ensures ∙ c.if-is_some.true)
    (λ made s t. c.lift_fault-fault.ensures made s t.core_is t.types_are)

pub returns-in-Err-clause-answer : goal.returns-in-Err-clause-answer
returns-in-Err-clause-answer c =
    let types = types_in c.args.types.now in
    let funcs = funcs_in c.args.types.now in
    let none = is_none c.lift_fault-fault.result (sym c.is_some.ensures ∙ c.if-is_some.false) in
    faulty_answer c.args.types.now (lift c.args.core_func c.args.options.now c.args.ty) c.args.core.now c.args.component.now (Some c.in-Err.reason) refl
    (λ made s t. absurd (never_untyped c.least_of_both.ensures s c.args.core_func c.args.ty c.args.options.now c.in-Err.reason (c.in-Err.ensures.broken types funcs s t.types_are) (sym none ∙ c.lift_fault-fault.ensures made s t.core_is t.types_are)))

pub returns-in_ok-add_lift-in-Ok-clause-answer : goal.returns-in_ok-add_lift-in-Ok-clause-answer
returns-in_ok-add_lift-in-Ok-clause-answer c =
    let types = types_in c.args.types.now in
    let funcs = funcs_in c.args.types.now in
    added_answer c.args.types.now (lift c.args.core_func c.args.options.now c.args.ty) c.args.core.now c.args.component.now c.types_after.ensures.none c.lift_fault-fault.result c.add_lift-in-Ok.new.self c.add_lift.new.self
    (sym c.is_some.ensures ∙ c.if-is_some.false) (λ made s t. c.lift_fault-fault.ensures made s t.core_is t.types_are)
    (λ made s t tells. c.add_lift-in-Ok.ensures.added made s c.args.core_func c.args.ty t.core_is)
    (λ made s t. c.in_ok-add_lift-in-Ok.ensures.added types funcs s c.args.types.now.entries.now c.args.ty t.component_is t.types_are c.in-Ok.ensures.entry)
    (omega (arith, c.add_lift-in-Ok.ensures.counted))
