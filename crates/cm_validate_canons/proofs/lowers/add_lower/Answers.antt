use Rattle.std.proofs.Common.{sym, ◌∙◌}
use Rattle.cm_binary_model.specs.Trees.{lower}
use Rattle.cm_validate_canons.specs.Types.{funcs_in, types_in}
use Rattle.cm_validate_canons.proofs.AnswerLaws.{added_answer, faulty_answer}
use Rattle.cm_validate_canons.proofs.lowers.add_lower.Goals as goal

pub returns-then-is_some-clause-answer : goal.returns-then-is_some-clause-answer
returns-then-is_some-clause-answer c =
    faulty_answer c.args.types.now (lower c.args.func c.args.options.now) c.args.core.now c.args.component.now c.lower_fault-fault.result (sym c.is_some.ensures ∙ c.if-is_some.true)
    (λ made s t. c.lower_fault-fault.ensures made s t.core_is t.component_is)

pub returns-clause-answer : goal.returns-clause-answer
returns-clause-answer c =
    let types = types_in c.args.types.now in
    let funcs = funcs_in c.args.types.now in
    added_answer c.args.types.now (lower c.args.func c.args.options.now) c.args.core.now c.args.component.now c.types_after.ensures.none c.lower_fault-fault.result c.add_lower.new.self c.args.component.now
    (sym c.is_some.ensures ∙ c.if-is_some.false) (λ made s t. c.lower_fault-fault.ensures made s t.core_is t.component_is)
    (λ made s t tells. c.in_ok-add_lower.ensures.added made s c.args.func tells t.core_is)
    (λ made s t. c.others_add_nothing.ensures.lowers c.args.func c.args.options.now types funcs c.args.component.now s t.component_is)
    c.in_ok-add_lower.ensures.counted
