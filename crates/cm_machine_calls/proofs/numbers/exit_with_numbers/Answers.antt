use Rattle.std.proofs.Common.{◌≡◌, ◌∙◌, inl, ap, sym, subst, refl, ℕ, Option, Some, None, List, length, false, arith}
use Rattle.std.specs.Prelude.{IsSome, if◌then◌else◌}
use Rattle.std.proofs.lemmas.List.{length-map}
use Rattle.cm_types.specs.CoreValues.{kind_of}
use Rattle.cm_types.specs.declared.core_value.CoreValue.{CoreValue}
use Rattle.cm_types.specs.declared.core_value.CoreKind.{CoreKind}
use Rattle.cm_layout.specs.Flattening.{flat_of_fields}
use Rattle.cm_abi_model.specs.Views.{results}
use Rattle.cm_abi_model.proofs.ReceivesLaws.{few_kinds}
use Rattle.cm_machine_model.specs.Plan.{types_of}
use Rattle.cm_machine_model.specs.State.{Passage, State}
use Rattle.cm_machine_model.specs.Step.{Finishes, result_view, top_place}
use Rattle.cm_machine_parts.specs.Rows.{event_of}
use Rattle.cm_machine_parts.specs.States.{state_of}
use Rattle.cm_machine_calls.specs.Going.{passage_now}
use Rattle.cm_machine_calls.specs.Lifting.{passage_in}
use Rattle.cm_machine_calls.proofs.NumberLaws.{as_many, exits, finish_kept, flat_kinds, idle_body, is_flat, numbers_in, unseen}
use Rattle.cm_machine_calls.proofs.ReturnLaws.{result_stop}
use Rattle.cm_machine_calls.proofs.Standing.{not_passing, top_call, top_parts}
use Rattle.cm_machine_calls.proofs.numbers.exit_with_numbers.Goals as goal
use Rattle.cm_machine_model.proofs.StackLaws.{some_stand}

pub pass_numbers-requires-clause-few : goal.pass_numbers-requires-clause-few
pass_numbers-requires-clause-few c =
    let x = c.requires.returned in
    omega (arith, length-map c.args.given.now kind_of, ap (λ (ks : List CoreKind). length ks) (c.requires.kinds x.1 x.2.link_is), few_kinds results (types_of x.1 results))

pub pass_numbers-requires-clause-each : goal.pass_numbers-requires-clause-each
pass_numbers-requires-clause-each c =
    let x = c.requires.returned in
    let l = x.1 in
    let are = c.requires.steps l x.2.link_is in
    as_many c.args.given.now (flat_of_fields (types_of l results)) c.args.steps.now (c.requires.kinds l x.2.link_is ∙ flat_kinds results (types_of l results) c.args.steps.now are)
    (c.each_core_value_has_a_step.ensures results (types_of l results) c.args.steps.now are)

pub returns-in-Err-clause-row : goal.returns-in-Err-clause-row
returns-in-Err-clause-row c = λ plan l y.
    let s : State = state_of c.args.state.now in
    let are = c.requires.steps l y.link_is in
    result_stop s s l c.args.call.now c.args.given.now c.in-Err.trap
    (inl (c.in-Err.ensures.passes (result_view s l) results (types_of l results) are (c.requires.kinds l y.link_is ∙ flat_kinds results (types_of l results) c.args.steps.now are))) refl

pub keep_for_post_return-requires : goal.keep_for_post_return-requires
keep_for_post_return-requires c =
    let x = c.requires.returned in
    omega (arith, length-map c.args.given.now kind_of, ap (λ (ks : List CoreKind). length ks) (c.requires.kinds x.1 x.2.link_is), few_kinds results (types_of x.1 results))

pub exit_call-requires : goal.exit_call-requires
exit_call-requires c =
    let x = c.requires.returned in
    let y = x.2 in
    let s = c.args.state.now in
    let can = c.calls_can_end.ensures x.0 s y.runs (some_stand s.stack.frames y.top y.on_top) in
    record { some = can.some; above = can.above; lent = can.lent }

pub returns-clause-row : goal.returns-clause-row
returns-clause-row c = λ plan l y.
    let old = c.args.state.now in
    let s : State = state_of old in
    let call = c.args.call.now in
    let given = c.args.given.now in
    let passed : List CoreValue = c.pass_numbers.new.values in
    let w = result_view s l in
    let are = c.requires.steps l y.link_is in
    let got = c.in-Ok.ensures.passes w results (types_of l results) are (c.requires.kinds l y.link_is ∙ flat_kinds results (types_of l results) c.args.steps.now are) in
    let there = c.what_is_met_is_the_values_handles.ensures w results (types_of l results) given got.0 got.1.denoted in
    let idle = idle_body plan s l call y.top y.on_top y.runs.valid.passes y.is_call y.reaches c.requires.body in
    let none : old.passing.scan.has_value ≡ false = not_passing old.passing.scan.has_value (passage_now old) idle in
    let p = numbers_in given in
    let e = event_of c.exit_call.result c.exit_call.new.values in
    let new : State = state_of c.exit_call.new.state in
    let kept : List CoreValue = c.keep_for_post_return.new.slots in
    let mid : State = record s { passage = if old.passing.scan.has_value then Some (passage_in kept old.passing.scan) else None } in
    let same : mid ≡ s = ap {B = State} (λ (o : Option Passage). record s { passage = o }) (unseen old.passing.scan.has_value (passage_in kept old.passing.scan) (passage_now old) none) in
    let fin : Finishes l.post_return (top_place mid) l call p passed mid e new =
    finish_kept l.post_return (top_place mid) l call (numbers_in kept) p passed mid e new
    (λ some. c.keep_for_post_return.ensures (subst (λ (o : Option ℕ). IsSome o) (sym y.link_is.post_return_is) some)) (c.exit_call.ensures.finishes l (numbers_in kept) y.link_is refl) in
    exits s l call given passed got.0 e new there got.1 idle (is_flat results (types_of l results) c.args.steps.now are)
    (subst (λ (st : State). Finishes l.post_return (top_place st) l call p passed st e new) same fin)

pub returns-clause-kept : goal.returns-clause-kept
returns-clause-kept c = λ plan l y.
    let s = c.args.state.now in
    let top = top_call plan l c.args.call.now s.stack.frames y.top y.runs.valid.stack y.on_top y.is_call y.reaches in
    let stays = c.exit_call.ensures.stays l y.link_is in
    record { counted = stays.counted y.top _ (top_parts s.stack.frames y.top y.on_top) top.instance y.runs.kept.counted; encoded = stays.encoded plan y.runs.valid.stack }
