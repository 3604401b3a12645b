use Rattle.std.proofs.Common.{◌≡◌, ◌∙◌, ◌-◌, ◌++◌, [], ◌∷◌, ap, subst, ℕ, length, arith, None, Some}
use Rattle.std.proofs.lemmas.List.{length-append}
use Rattle.cm_abi_model.specs.Answering.{answer_fault}
use Rattle.cm_abi_model.specs.Ways.{way_of}
use Rattle.cm_abi_model.specs.declared.receiver.Receiver.{Receiver}
use Rattle.cm_machine_model.specs.Memories.{memory_at}
use Rattle.cm_machine_model.specs.Passages.{asked_for}
use Rattle.cm_machine_model.specs.State.{State}
use Rattle.cm_machine_model.specs.Step.{GoesOn, giver_of, receiver_of, top_place}
use Rattle.cm_machine_parts.specs.States.{state_of}
use Rattle.cm_machine_calls.specs.Answering.{CanAnswer}
use Rattle.cm_machine_calls.specs.Calling.{AnswersAt}
use Rattle.cm_machine_calls.specs.Going.{CanGoOn, passage_now}
use Rattle.cm_machine_calls.proofs.HandingLaws.{all_are}
use Rattle.cm_machine_calls.proofs.ReturnLaws.{answer_fine, answer_wrong, under_answered}
use Rattle.cm_machine_calls.proofs.RowLaws.{same_instance}
use Rattle.cm_machine_calls.proofs.requests.answer.Goals as goal
use Rattle.cm_machine_parts.proofs.RowsLaws.{meets_by}

pub keep_answer-requires : goal.keep_answer-requires
keep_answer-requires c =
    let x = c.requires.under in
    let s = c.args.state.now in
    let way = way_of c.args.way in
    let under = x.6 in
    record {
      answered = (
        asked_for x.1 way (passage_now s) x.2,
        x.3,
        x.4,
        record {
          passes = under.passes;
          all = all_are c.records_ask_for_parts.ensures.call (memory_at s.memories (giver_of way x.1 c.args.call.now)) x.1 way s.passing.slots s.passing.scan x.2 under.encoded.0 under.encoded.1 under.carried;
          has = under.answered;
          next = x.7;
        },
      );
    }

pub returns-in-Err-clause-row : goal.returns-in-Err-clause-row
returns-in-Err-clause-row c = λ plan l v answers r is under next.
    let s = c.args.state.now in
    let way = way_of c.args.way in
    let call = c.args.call.now in
    let rs = asked_for l way (passage_now s) v in
    let can : CanAnswer s rs answers r =
    record {
      passes = under.passes;
      all = all_are c.records_ask_for_parts.ensures.call (memory_at s.memories (giver_of way l call)) l way s.passing.slots s.passing.scan v under.encoded.0 under.encoded.1 under.carried;
      has = under.answered;
      next = next;
    } in
    let stop = c.in-Err.ensures.keeps rs answers r can in
    let to : c.receiver_of-to.result.instance ≡ (receiver_of way (top_place (state_of s)) l call).instance = ap (λ (x : Receiver). x.instance) (c.receiver_of-to.ensures l is) ∙ same_instance way (c.len.result - 1) (top_place (state_of s)) l call in
    let fault : answer_fault (length (memory_at s.memories (receiver_of way (top_place (state_of s)) l call).instance)) r c.args.at ≡ Some stop.0 =
    subst (λ (n : ℕ). answer_fault (length (memory_at s.memories n)) r c.args.at ≡ Some stop.0) to stop.1 in
    answer_wrong (state_of s) (state_of c.keep_answer.new.state) _ stop.0 _ c.in-Err.trap fault stop.2 c.in-Err.ensures.unchanged

pub go_on-requires : goal.go_on-requires
go_on-requires c =
    let x = c.requires.under in
    let s = c.args.state.now in
    let way = way_of c.args.way in
    let call = c.args.call.now in
    let under = x.6 in
    let rs = asked_for x.1 way (passage_now s) x.2 in
    let can : CanAnswer s rs x.3 x.4 =
    record {
      passes = under.passes;
      all = all_are c.records_ask_for_parts.ensures.call (memory_at s.memories (giver_of way x.1 call)) x.1 way s.passing.slots s.passing.scan x.2 under.encoded.0 under.encoded.1 under.carried;
      has = under.answered;
      next = x.7;
    } in
    let keeps = c.in-Ok.ensures.keeps rs x.3 x.4 can in
    let to : c.receiver_of-to.result.instance ≡ (receiver_of way (length under.below) x.1 call).instance = ap (λ (y : Receiver). y.instance) (c.receiver_of-to.ensures x.1 x.5) ∙ same_instance way (c.len.result - 1) (length under.below) x.1 call in
    record {
      on = (
        x.0,
        x.1,
        x.2,
        x.3 ++ c.args.at ∷ [],
        x.5,
        record {
          under = under_answered c.answers_stay_fine.ensures.kept x.0 s c.keep_answer.new.state x.1 way call x.2 x.3 x.4 c.receiver_of-to.result.instance c.args.at under x.7 keeps c.keep_answer.ensures.stack to;
          placed = λ e spilled. omega (arith, length-append x.3 (c.args.at ∷ []));
        },
      );
    }

pub returns-clause-row : goal.returns-clause-row
returns-clause-row c = λ plan l v answers r is under next.
    let s = c.args.state.now in
    let mid = c.keep_answer.new.state in
    let way = way_of c.args.way in
    let call = c.args.call.now in
    let at = c.args.at in
    let rs = asked_for l way (passage_now s) v in
    let can : CanAnswer s rs answers r =
    record {
      passes = under.passes;
      all = all_are c.records_ask_for_parts.ensures.call (memory_at s.memories (giver_of way l call)) l way s.passing.slots s.passing.scan v under.encoded.0 under.encoded.1 under.carried;
      has = under.answered;
      next = next;
    } in
    let keeps = c.in-Ok.ensures.keeps rs answers r can in
    let place = top_place (state_of s) in
    let here : c.receiver_of-to.result.instance ≡ (receiver_of way (length under.below) l call).instance = ap (λ (x : Receiver). x.instance) (c.receiver_of-to.ensures l is) ∙ same_instance way (c.len.result - 1) (length under.below) l call in
    let to : c.receiver_of-to.result.instance ≡ (receiver_of way place l call).instance = ap (λ (x : Receiver). x.instance) (c.receiver_of-to.ensures l is) ∙ same_instance way (c.len.result - 1) place l call in
    let fine : answer_fault (length (memory_at s.memories (receiver_of way place l call).instance)) r at ≡ None = subst (λ (n : ℕ). answer_fault (length (memory_at s.memories n)) r at ≡ None) to keeps.fine in
    let on : CanGoOn plan mid l way call v (answers ++ at ∷ []) =
    record {
      under = under_answered c.answers_stay_fine.ensures.kept plan s mid l way call v answers r c.receiver_of-to.result.instance at under next keeps c.keep_answer.ensures.stack here;
      placed = λ e spilled. omega (arith, length-append answers (at ∷ []));
    } in
    meets_by (GoesOn (state_of mid) (top_place (state_of mid)) l way call (passage_now mid) v (answers ++ at ∷ [])) (AnswersAt (state_of s) l way call (passage_now s) v answers r at) c.go_on.result
    c.go_on.new.values (state_of c.go_on.new.state)
    (λ e st goes. answer_fine (state_of s) _ _ e st fine
    (passage_now mid, keeps.kept, subst (λ (y : State). GoesOn y (top_place y) l way call (passage_now mid) v (answers ++ at ∷ []) e st) keeps.is goes))
    (c.go_on.ensures.row plan l v (answers ++ at ∷ []) is on)

pub returns-clause-kept : goal.returns-clause-kept
returns-clause-kept c = λ plan l v answers r is under next.
    let s = c.args.state.now in
    let mid = c.keep_answer.new.state in
    let way = way_of c.args.way in
    let call = c.args.call.now in
    let at = c.args.at in
    let rs = asked_for l way (passage_now s) v in
    let can : CanAnswer s rs answers r =
    record {
      passes = under.passes;
      all = all_are c.records_ask_for_parts.ensures.call (memory_at s.memories (giver_of way l call)) l way s.passing.slots s.passing.scan v under.encoded.0 under.encoded.1 under.carried;
      has = under.answered;
      next = next;
    } in
    let keeps = c.in-Ok.ensures.keeps rs answers r can in
    let here : c.receiver_of-to.result.instance ≡ (receiver_of way (length under.below) l call).instance = ap (λ (x : Receiver). x.instance) (c.receiver_of-to.ensures l is) ∙ same_instance way (c.len.result - 1) (length under.below) l call in
    c.go_on.ensures.kept plan l v (answers ++ at ∷ []) is
    (record {
      under = under_answered c.answers_stay_fine.ensures.kept plan s mid l way call v answers r c.receiver_of-to.result.instance at under next keeps c.keep_answer.ensures.stack here;
      placed = λ e spilled. omega (arith, length-append answers (at ∷ []));
    })
