use Rattle.std.proofs.Common.{inl, inr, refl, subst, ℕ}
use Rattle.cm_abi_model.specs.Ways.{way_of}
use Rattle.cm_machine_model.specs.Step.{ReturnsIn}
use Rattle.cm_machine_parts.specs.States.{state_of}
use Rattle.cm_machine_calls.specs.Calling.{AnswersAt}
use Rattle.cm_machine_calls.specs.Going.{passage_now, phase_of}
use Rattle.cm_machine_calls.proofs.ReturnLaws.{answers_row, on_its_way}
use Rattle.cm_machine_calls.proofs.requests.return_answer.Goals as goal
use Rattle.cm_machine_parts.proofs.RowsLaws.{meets_by}
use Rattle.cm_machine_model.proofs.StackLaws.{some_stand}

pub returns-in_default-clause-row : goal.returns-in_default-clause-row
returns-in_default-clause-row c = λ plan l ret.
    answers_row (way_of c.args.way) (state_of c.args.state.now) l c.args.call.now c.args.given.now _ _ (inl (c.in_default.ensures, (refl, refl)))

pub answer-requires : goal.answer-requires
answer-requires c =
    let x = c.requires.returned in
    let s = c.args.state.now in
    let y = x.2 in
    let h = on_its_way x.0 s x.1 (way_of c.args.way) c.args.call.now y.top y.runs y.on_top y.is_call y.reaches c.requires.phase c.len.ensures.numbers
    (c.calls_can_end.ensures x.0 s y.runs (some_stand s.stack.frames y.top y.on_top)) in
    record { under = (x.0, x.1, h.v, h.answers, h.r, y.link_is, h.under, h.next) }

pub returns-clause-row : goal.returns-clause-row
returns-clause-row c = λ plan l y.
    let s = c.args.state.now in
    let way = way_of c.args.way in
    let call = c.args.call.now in
    let h = on_its_way plan s l way call y.top y.runs y.on_top y.is_call y.reaches c.requires.phase c.len.ensures.numbers
    (c.calls_can_end.ensures plan s y.runs (some_stand s.stack.frames y.top y.on_top)) in
    meets_by (AnswersAt (state_of s) l way call (passage_now s) h.v h.answers h.r c.in-Some.at) (ReturnsIn (phase_of way) (state_of s) l call c.args.given.now) c.answer.result c.answer.new.values
    (state_of c.answer.new.state)
    (λ e st a. answers_row way (state_of s) l call c.args.given.now e st
    (inr (
      c.in-Some.ensures.0,
      (
        passage_now s,
        h.v,
        h.answers,
        h.r,
        h.passage_is,
        h.under.carried,
        h.under.answered,
        h.next,
        subst (λ (n : ℕ). AnswersAt (state_of s) l way call (passage_now s) h.v h.answers h.r n e st) c.in-Some.ensures.1 a,
      ),
    )))
    (c.answer.ensures.row plan l h.v h.answers h.r y.link_is h.under h.next)

pub returns-clause-kept : goal.returns-clause-kept
returns-clause-kept c = λ plan l y.
    let s = c.args.state.now in
    let h = on_its_way plan s l (way_of c.args.way) c.args.call.now y.top y.runs y.on_top y.is_call y.reaches c.requires.phase c.len.ensures.numbers
    (c.calls_can_end.ensures plan s y.runs (some_stand s.stack.frames y.top y.on_top)) in
    c.answer.ensures.kept plan l h.v h.answers h.r y.link_is h.under h.next
