use Rattle.std.proofs.Common.{Some, subst}
use Rattle.cm_machine_model.specs.declared.frame.Purpose.TheVariants as purpose
use Rattle.cm_machine_model.specs.Plan.{core_func_at}
use Rattle.cm_machine_model.specs.Step.{Returns, ReturnsIn}
use Rattle.cm_machine_links.specs.declared.core_funcs.CoreFunc.{CoreFunc}
use Rattle.cm_machine_links.specs.Planned.{IsFound}
use Rattle.cm_machine_parts.specs.States.{state_of}
use Rattle.cm_machine_calls.specs.Calling.{IsReturned}
use Rattle.cm_machine_set.proofs.Found.{found_lowered}
use Rattle.cm_machine_set.proofs.Meeting.{meets_by}
use Rattle.cm_machine_set.proofs.advance.return_call.Goals as goal

pub returns-clause-row : goal.returns-clause-row
returns-clause-row c plan planned runs =
    let o = core_func_at plan c.args.call.now.caller c.args.call.now.func in
    let l = found_lowered o c.in-Some-Lowered.link (subst (λ (f : CoreFunc). IsFound o (Some f)) c.in-Some-Lowered.field-0-is (c.in-Some-Lowered.ensures plan planned)) in
    let returned : IsReturned plan c.args.state.now c.args.call.now l.0 c.in-Some-Lowered.link = record { runs = runs; top = c.args.top.now; on_top = c.requires.top; is_call = c.requires.call; reaches = l.1; link_is = l.2 } in
    meets_by (ReturnsIn c.args.call.now.phase (state_of c.args.state.now) l.0 c.args.call.now c.args.given.now)
    (Returns plan (state_of c.args.state.now) (purpose.Call c.args.call.now) c.args.given.now)
    (λ e s h. (l.0, l.1, h)) c.return_in_call.result c.return_in_call.new.values (state_of c.return_in_call.new.state)
    (c.return_in_call.ensures.row plan l.0 returned)

pub returns-clause-kept : goal.returns-clause-kept
returns-clause-kept c plan planned runs =
    let o = core_func_at plan c.args.call.now.caller c.args.call.now.func in
    let l = found_lowered o c.in-Some-Lowered.link (subst (λ (f : CoreFunc). IsFound o (Some f)) c.in-Some-Lowered.field-0-is (c.in-Some-Lowered.ensures plan planned)) in
    let returned : IsReturned plan c.args.state.now c.args.call.now l.0 c.in-Some-Lowered.link = record { runs = runs; top = c.args.top.now; on_top = c.requires.top; is_call = c.requires.call; reaches = l.1; link_is = l.2 } in
    c.return_in_call.ensures.kept plan l.0 returned
