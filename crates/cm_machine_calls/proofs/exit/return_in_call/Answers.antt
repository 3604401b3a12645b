use Rattle.std.proofs.Common.{sym, subst}
use Rattle.cm_machine_model.specs.declared.frame.Call.{Call}
use Rattle.cm_machine_model.specs.declared.frame.Phase.{Phase}
use Rattle.cm_machine_model.specs.declared.frame.Phase.TheVariants as phase
use Rattle.cm_machine_calls.specs.Calling.{IsReturned}
use Rattle.cm_machine_model.specs.Step.{ReturnsIn}
use Rattle.cm_machine_parts.specs.Rows.{MeetsRow}
use Rattle.cm_machine_parts.specs.States.{state_of}
use Rattle.cm_machine_calls.proofs.exit.return_in_call.Goals as goal
use Rattle.cm_machine_model.proofs.StackLaws.{some_stand}

pub returns-in-Arguments-clause-row : goal.returns-in-Arguments-clause-row
returns-in-Arguments-clause-row c = λ plan l y.
    let again : IsReturned plan c.args.state.now c.call_in-call.result l c.args.link.now = subst (λ (k : Call). IsReturned plan c.args.state.now k l c.args.link.now) (sym c.call_in-call.ensures) y in
    subst (λ (p : Phase). MeetsRow (ReturnsIn p (state_of c.args.state.now) l c.args.call.now c.args.given.now) c.return_answer.result c.return_answer.new.values (state_of c.return_answer.new.state)) (sym c.in-Arguments.is)
    (subst (λ (k : Call). MeetsRow (ReturnsIn (phase.Arguments) (state_of c.args.state.now) l k c.args.given.now) c.return_answer.result c.return_answer.new.values (state_of c.return_answer.new.state)) c.call_in-call.ensures (c.return_answer.ensures.row plan l again))

pub returns-in-Arguments-clause-kept : goal.returns-in-Arguments-clause-kept
returns-in-Arguments-clause-kept c = λ plan l y.
    c.return_answer.ensures.kept plan l (subst (λ (k : Call). IsReturned plan c.args.state.now k l c.args.link.now) (sym c.call_in-call.ensures) y)

pub returns-in-Body-clause-row : goal.returns-in-Body-clause-row
returns-in-Body-clause-row c = λ plan l y.
    subst (λ (p : Phase). MeetsRow (ReturnsIn p (state_of c.args.state.now) l c.args.call.now c.args.given.now) c.return_body.result c.return_body.new.values (state_of c.return_body.new.state)) (sym c.in-Body.is) (c.return_body.ensures.row plan l y)

pub returns-in-Results-clause-row : goal.returns-in-Results-clause-row
returns-in-Results-clause-row c = λ plan l y.
    let again : IsReturned plan c.args.state.now c.call_in-call-in-Results.result l c.args.link.now = subst (λ (k : Call). IsReturned plan c.args.state.now k l c.args.link.now) (sym c.call_in-call-in-Results.ensures) y in
    subst (λ (p : Phase). MeetsRow (ReturnsIn p (state_of c.args.state.now) l c.args.call.now c.args.given.now) c.return_answer-in-Results.result c.return_answer-in-Results.new.values (state_of c.return_answer-in-Results.new.state)) (sym c.in-Results.is)
    (subst (λ (k : Call). MeetsRow (ReturnsIn (phase.Results) (state_of c.args.state.now) l k c.args.given.now) c.return_answer-in-Results.result c.return_answer-in-Results.new.values (state_of c.return_answer-in-Results.new.state)) c.call_in-call-in-Results.ensures (c.return_answer-in-Results.ensures.row plan l again))

pub returns-in-Results-clause-kept : goal.returns-in-Results-clause-kept
returns-in-Results-clause-kept c = λ plan l y.
    c.return_answer-in-Results.ensures.kept plan l (subst (λ (k : Call). IsReturned plan c.args.state.now k l c.args.link.now) (sym c.call_in-call-in-Results.ensures) y)

pub return_post_return-requires-clause-some : goal.return_post_return-requires-clause-some
return_post_return-requires-clause-some c =
    let y = c.requires.returned.2 in
    some_stand c.args.state.now.stack.frames y.top y.on_top
