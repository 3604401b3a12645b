use Rattle.std.proofs.Common.{◌≡◌, ◌∙◌, [], ap, sym, subst, Some, true, false}
use Rattle.std.specs.Prelude.{slice_get}
use Rattle.cm_abi_model.specs.RecordRequests.{tags_of}
use Rattle.cm_abi_model.specs.Requests.{is_spilled, spilled_request}
use Rattle.cm_abi_model.specs.Views.{results}
use Rattle.cm_machine_model.specs.declared.frame.Call.{Call}
use Rattle.cm_machine_model.specs.Passages.{asked_for}
use Rattle.cm_machine_model.specs.Plan.{giver_side, receiver_side, types_of}
use Rattle.cm_machine_model.specs.Step.{GoesOn, ReturnsResult, top_place}
use Rattle.cm_machine_parts.specs.States.{state_of}
use Rattle.cm_machine_parts.specs.declared.link.CallTypes.{CallTypes}
use Rattle.cm_machine_calls.specs.Calling.{AnswersAt}
use Rattle.cm_machine_calls.specs.Going.{IsUnderWay, passage_now}
use Rattle.cm_machine_calls.proofs.ReturnLaws.{result_stop, row_flat, row_placed}
use Rattle.cm_machine_calls.proofs.exit.pass_result.Goals as goal
use Rattle.cm_machine_parts.proofs.RowsLaws.{meets_by}

pub returns-in-Err-clause-row : goal.returns-in-Err-clause-row
returns-in-Err-clause-row c = λ plan l y.
    result_stop (state_of c.args.state.now) (state_of c.lift_result.new.state) l c.args.call.now c.args.given.now c.in-Err.trap (c.in-Err.ensures.lifts plan l y) c.in-Err.ensures.unchanged

pub answer-requires : goal.answer-requires
answer-requires c =
    let x = c.requires.returned in
    let y = x.2 in
    let l = x.1 in
    let mid = c.lift_result.new.state in
    let h = c.in-Ok.ensures.lifts x.0 l y in
    let spilled : is_spilled results (types_of l results) ≡ true = sym y.link_is.pointer_is ∙ ap (λ (t : CallTypes). t.has_pointer) (sym c.deref.ensures) ∙ c.if-deref.true in
    record {
      under = (
        x.0,
        l,
        h.v,
        [],
        spilled_request (types_of l results),
        y.link_is,
        subst (λ (z : Call). IsUnderWay x.0 mid l results z h.v []) (sym c.in_results-placing.ensures) h.under,
        c.each_part_is_asked_for.ensures.tuple results (types_of l results) h.v (giver_side l results).encoding (receiver_side l results).encoding (tags_of (passage_now mid).records) spilled,
      );
    }

pub returns-then-deref-clause-row : goal.returns-then-deref-clause-row
returns-then-deref-clause-row c = λ plan l y.
    let s = c.args.state.now in
    let mid = c.lift_result.new.state in
    let call = c.args.call.now in
    let h = c.in-Ok.ensures.lifts plan l y in
    let spilled : is_spilled results (types_of l results) ≡ true = sym y.link_is.pointer_is ∙ ap (λ (t : CallTypes). t.has_pointer) (sym c.deref.ensures) ∙ c.if-deref.true in
    let r = spilled_request (types_of l results) in
    let next : slice_get (asked_for l results (passage_now mid) h.v) 0 ≡ Some r =
    c.each_part_is_asked_for.ensures.tuple results (types_of l results) h.v (giver_side l results).encoding (receiver_side l results).encoding (tags_of (passage_now mid).records) spilled in
    meets_by (AnswersAt (state_of mid) l results c.in_results-placing.result (passage_now mid) h.v [] r call.result_at) (ReturnsResult (state_of s) l call c.args.given.now) c.answer.result c.answer.new.values
    (state_of c.answer.new.state)
    (λ e st a. row_placed plan s mid l call c.args.given.now h r e st spilled next
    (subst (λ (z : Call). AnswersAt (state_of mid) l results z (passage_now mid) h.v [] r call.result_at e st) c.in_results-placing.ensures a))
    (c.answer.ensures.row plan l h.v [] r y.link_is (subst (λ (z : Call). IsUnderWay plan mid l results z h.v []) (sym c.in_results-placing.ensures) h.under) next)

pub returns-then-deref-clause-kept : goal.returns-then-deref-clause-kept
returns-then-deref-clause-kept c = λ plan l y.
    let mid = c.lift_result.new.state in
    let h = c.in-Ok.ensures.lifts plan l y in
    let spilled : is_spilled results (types_of l results) ≡ true = sym y.link_is.pointer_is ∙ ap (λ (t : CallTypes). t.has_pointer) (sym c.deref.ensures) ∙ c.if-deref.true in
    c.answer.ensures.kept plan l h.v [] (spilled_request (types_of l results)) y.link_is (subst (λ (z : Call). IsUnderWay plan mid l results z h.v []) (sym c.in_results-placing.ensures) h.under)
    (c.each_part_is_asked_for.ensures.tuple results (types_of l results) h.v (giver_side l results).encoding (receiver_side l results).encoding (tags_of (passage_now mid).records) spilled)

pub go_on-requires : goal.go_on-requires
go_on-requires c =
    let x = c.requires.returned in
    let y = x.2 in
    let l = x.1 in
    let mid = c.lift_result.new.state in
    let h = c.in-Ok.ensures.lifts x.0 l y in
    let flat : is_spilled results (types_of l results) ≡ false = sym y.link_is.pointer_is ∙ ap (λ (t : CallTypes). t.has_pointer) (sym c.deref.ensures) ∙ c.if-deref.false in
    record {
      on = (x.0, l, h.v, [], y.link_is, record { under = subst (λ (z : Call). IsUnderWay x.0 mid l results z h.v []) (sym c.in_results-placing.ensures) h.under; placed = λ e spilled. absurd (cc (flat, spilled)) });
    }

pub returns-else-deref-clause-row : goal.returns-else-deref-clause-row
returns-else-deref-clause-row c = λ plan l y.
    let s = c.args.state.now in
    let mid = c.lift_result.new.state in
    let call = c.args.call.now in
    let h = c.in-Ok.ensures.lifts plan l y in
    let flat : is_spilled results (types_of l results) ≡ false = sym y.link_is.pointer_is ∙ ap (λ (t : CallTypes). t.has_pointer) (sym c.deref.ensures) ∙ c.if-deref.false in
    meets_by (GoesOn (state_of mid) (top_place (state_of mid)) l results c.in_results-placing.result (passage_now mid) h.v []) (ReturnsResult (state_of s) l call c.args.given.now) c.go_on.result
    c.go_on.new.values (state_of c.go_on.new.state)
    (λ e st g. row_flat plan s mid l call c.args.given.now h e st flat
    (subst (λ (z : Call). GoesOn (state_of mid) (top_place (state_of mid)) l results z (passage_now mid) h.v [] e st) c.in_results-placing.ensures g))
    (c.go_on.ensures.row plan l h.v [] y.link_is (record { under = subst (λ (z : Call). IsUnderWay plan mid l results z h.v []) (sym c.in_results-placing.ensures) h.under; placed = λ e spilled. absurd (cc (flat, spilled)) }))

pub returns-else-deref-clause-kept : goal.returns-else-deref-clause-kept
returns-else-deref-clause-kept c = λ plan l y.
    let mid = c.lift_result.new.state in
    let h = c.in-Ok.ensures.lifts plan l y in
    let flat : is_spilled results (types_of l results) ≡ false = sym y.link_is.pointer_is ∙ ap (λ (t : CallTypes). t.has_pointer) (sym c.deref.ensures) ∙ c.if-deref.false in
    c.go_on.ensures.kept plan l h.v [] y.link_is
    (record { under = subst (λ (z : Call). IsUnderWay plan mid l results z h.v []) (sym c.in_results-placing.ensures) h.under; placed = λ e spilled. absurd (cc (flat, spilled)) })
