use Rattle.std.proofs.Common.{[]}
use Rattle.cm_abi_model.specs.Views.{params}
use Rattle.cm_machine_model.specs.Stack.{actor}
use Rattle.cm_machine_model.specs.Step.{GoesOn, PassesArguments, top_place}
use Rattle.cm_machine_parts.specs.States.{state_of}
use Rattle.cm_machine_calls.specs.Going.{CanGoOn, passage_now}
use Rattle.cm_machine_calls.proofs.CallLaws.{passes_on}
use Rattle.cm_machine_calls.proofs.enter.pass_arguments.Goals as goal
use Rattle.cm_machine_parts.proofs.RowsLaws.{meets_by}

pub go_on-requires : goal.go_on-requires
go_on-requires c =
    let x = c.requires.may in
    let h = c.in-Ok.ensures.lifts x.0 x.1 x.2 x.3 in
    record { on = (x.0, x.1, h.v, [], x.3.called.link_is, record { under = h.under; placed = λ e. absurd (cc (e)) }) }

pub returns-clause-row : goal.returns-clause-row
returns-clause-row c = λ plan l args may.
    let h = c.in-Ok.ensures.lifts plan l args may in
    let mid = c.lift_arguments.new.state in
    let on : CanGoOn plan mid l params c.in-Ok.call h.v [] = record { under = h.under; placed = λ e. absurd (cc (e)) } in
    meets_by (GoesOn (state_of mid) (top_place (state_of mid)) l params c.in-Ok.call (passage_now mid) h.v [])
    (PassesArguments (state_of c.args.state.now) (actor c.args.top.now) c.args.func l args) c.go_on.result c.go_on.new.values (state_of c.go_on.new.state)
    (λ e st goes. passes_on plan c.args.state.now mid (actor c.args.top.now) c.args.func l args c.in-Ok.call e st h goes) (c.go_on.ensures.row plan l h.v [] may.called.link_is on)

pub returns-clause-kept : goal.returns-clause-kept
returns-clause-kept c = λ plan l args may.
    let h = c.in-Ok.ensures.lifts plan l args may in
    c.go_on.ensures.kept plan l h.v [] may.called.link_is (record { under = h.under; placed = λ e. absurd (cc (e)) })
