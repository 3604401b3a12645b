use Rattle.std.proofs.Common.{◌≡◌, ◌∙◌, ◌++◌, [], ◌∷◌, ap, sym, subst, List, Some, None, length, arith}
use Rattle.std.specs.Prelude.{if◌then◌else◌, Bool, slice_get, true}
use Rattle.cm_abi_model.specs.Answered.{Requesting, all_requests, next_of, with_old}
use Rattle.cm_abi_model.specs.Answering.{answer_fault}
use Rattle.cm_abi_model.specs.Scanned.{Scanned}
use Rattle.cm_abi_model.specs.declared.request.Request.{Request}
use Rattle.cm_machine_model.specs.State.{State}
use Rattle.cm_machine_parts.specs.States.{state_of}
use Rattle.cm_machine_calls.specs.Lifting.{passage_in}
use Rattle.cm_machine_calls.proofs.AnswerLaws.{answered_is, asked_stays, at_next, few_answers, has_answers, next_is, passage_answered}
use Rattle.cm_machine_calls.proofs.Results.{some_is}
use Rattle.cm_machine_calls.proofs.requests.keep_answer.Goals as goal

pub answer-requires : goal.answer-requires
answer-requires c =
    let x = c.requires.answered in
    let rs = x.0 in
    let answers = x.1 in
    let can = x.3 in
    let state = c.args.state.now in record {
      answered = (
        answers,
        answered_is state.passing.slots state.passing.scan rs answers can.all (omega (arith, few_answers rs answers x.2 can.next)) can.has,
        some_is (next_of (all_requests state.passing.scan.parts) answers) (with_old answers x.2)
            (subst (λ (y : List Request). next_of y answers ≡ Some (with_old answers x.2)) (sym can.all) (next_is rs answers x.2 can.next)),
      );
    }

pub returns-in-Ok-clause-keeps : goal.returns-in-Ok-clause-keeps
returns-in-Ok-clause-keeps c = λ rs answers r can.
    let old = c.args.state.now.passing.scan in
    let new = c.answer.new.self in
    let slots = c.args.state.now.passing.slots in
    let only = c.answer.ensures.only in
    let has_value : new.has_value ≡ true = ap (λ (k : Scanned). k.has_value) only.kept ∙ can.passes in
    let there = answered_is slots old rs answers can.all (omega (arith, few_answers rs answers r can.next)) can.has in
    let all = asked_stays old new only ∙ can.all in
    let next = subst (λ (x : List Request). slice_get x (length answers) ≡ Some r) (sym can.all) can.next in
    record {
      is = ap {B = State} (λ (b : Bool). record (state_of c.args.state.now) { passage = if b then Some (passage_in slots new) else None }) has_value;
      passes = has_value;
      kept = passage_answered slots old new rs answers r c.args.at can.all can.has can.next only c.in-Ok.ensures.kept;
      has = has_answers slots new rs (answers ++ c.args.at ∷ []) all (c.in-Ok.ensures.kept answers there);
      all = all;
      source = ap (λ (p : Requesting). p.source) only.parts;
      target = ap (λ (p : Requesting). p.target) only.parts;
      lends = ap (λ (k : Scanned). k.lends) only.kept;
      fine = rw (← c.len_of-length.ensures.len) (at_next (λ x. answer_fault c.len_of-length.result x.0 c.args.at ≡ None) (all_requests old.parts) answers r next (c.in-Ok.ensures.fine answers there));
    }

pub returns-in-Err-clause-keeps : goal.returns-in-Err-clause-keeps
returns-in-Err-clause-keeps c = λ rs answers r can.
    let old = c.args.state.now.passing.scan in
    let slots = c.args.state.now.passing.slots in
    let there = answered_is slots old rs answers can.all (omega (arith, few_answers rs answers r can.next)) can.has in
    let next = subst (λ (x : List Request). slice_get x (length answers) ≡ Some r) (sym can.all) can.next in (
      c.in-Err.fault,
      rw (← c.len_of-length.ensures.len) (at_next (λ x. answer_fault c.len_of-length.result x.0 c.args.at ≡ Some c.in-Err.fault) (all_requests old.parts) answers r next (c.in-Err.ensures.fault answers there)),
      c.trap_of.ensures,
    )
