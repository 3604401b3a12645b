use Rattle.std.proofs.Common.{◌≡◌, ◌∙◌, ◌-◌, true, ap, sym, subst, refl, ℕ, List, [], ◌∷◌, Option, length, arith}
use Rattle.std.specs.Prelude.{is_some}
use Rattle.cm_types.specs.declared.core_value.CoreValue.TheVariants as core_value
use Rattle.cm_abi_model.specs.Answered.{last_answer, next_of}
use Rattle.cm_abi_model.specs.Bytes.{AreBytes}
use Rattle.cm_abi_model.specs.Ways.{way_of}
use Rattle.cm_abi_model.specs.declared.receiver.Receiver.{Receiver}
use Rattle.cm_abi_model.specs.declared.request.Request.{Request}
use Rattle.cm_machine_model.specs.Memories.{memory_at}
use Rattle.cm_machine_model.specs.declared.frame.Frame.{Frame}
use Rattle.cm_machine_model.specs.Passages.{as_args, asked_for}
use Rattle.cm_machine_model.specs.Plan.{receiver_side, types_of}
use Rattle.cm_machine_model.specs.Stack.{below_top}
use Rattle.cm_machine_model.specs.Valid.{IsStack}
use Rattle.cm_machine_model.specs.Step.{Asks, GoesOnBy, giver_of, receiver_of, top_place}
use Rattle.cm_machine_parts.specs.Rows.{event_of}
use Rattle.cm_machine_parts.specs.States.{state_of}
use Rattle.cm_machine_calls.specs.Going.{CanHand, passage_now}
use Rattle.cm_machine_calls.proofs.AnswerLaws.{answered_is}
use Rattle.cm_machine_calls.proofs.AskLaws.{allocator_there, asked_by, asks_is, next_there, none_there}
use Rattle.cm_machine_calls.proofs.HandingLaws.{all_are}
use Rattle.cm_machine_calls.proofs.RowLaws.{hands_err, hands_ok, received_at, same_instance}
use Rattle.cm_machine_calls.proofs.requests.go_on.Goals as goal

pub ask-requires : goal.ask-requires
ask-requires c =
    let x = c.requires.on in
    let on = x.5 in
    let way = way_of c.args.way in
    let s = c.args.state.now in
    let l = x.1 in
    let rs = asked_for l way (passage_now s) x.2 in
    let all = all_are c.records_ask_for_parts.ensures.call (memory_at s.memories (giver_of way l c.args.call.now)) l way s.passing.slots s.passing.scan x.2 on.under.encoded.0 on.under.encoded.1 on.under.carried in
    let there = next_there rs x.3 c.in-Some.next
    (c.in-Some.ensures.next x.3 (answered_is s.passing.slots s.passing.scan rs x.3 all on.under.some on.under.answered) ∙ ap (λ (y : List Request). next_of y x.3) all) in
    let typed = c.what_is_denoted_can_be_lowered.ensures.typed on.under.carried.view way (types_of l way) s.passing.slots x.2
    (subst (λ (y : List ℕ). AreBytes y) (sym on.under.carried.memory_is) on.under.bytes) on.under.carried.denoted in
    subst (λ (o : Option ℕ). is_some o ≡ true) (sym (c.realloc_of.ensures l x.4))
    (allocator_there c.each_part_is_asked_for.ensures.none x.0 c.args.call.now.caller l x.2 (passage_now s) x.3 c.in-Some.next.0 on.under.link way typed on.placed there.there)

pub returns-in-Some-clause-row : goal.returns-in-Some-clause-row
returns-in-Some-clause-row c = λ plan l v answers is on.
    let way = way_of c.args.way in
    let s = c.args.state.now in
    let call = c.args.call.now in
    let place = top_place (state_of s) in
    let p = passage_now s in
    let rs = asked_for l way p v in
    let all = all_are c.records_ask_for_parts.ensures.call (memory_at s.memories (giver_of way l call)) l way s.passing.slots s.passing.scan v on.under.encoded.0 on.under.encoded.1 on.under.carried in
    let there = next_there rs answers c.in-Some.next
    (c.in-Some.ensures.next answers (answered_is s.passing.slots s.passing.scan rs answers all on.under.some on.under.answered) ∙ ap (λ (y : List Request). next_of y answers) all) in
    let typed = c.what_is_denoted_can_be_lowered.ensures.typed on.under.carried.view way (types_of l way) s.passing.slots v
    (subst (λ (y : List ℕ). AreBytes y) (sym on.under.carried.memory_is) on.under.bytes) on.under.carried.denoted in
    let some = allocator_there c.each_part_is_asked_for.ensures.none plan call.caller l v p answers c.in-Some.next.0 on.under.link way typed on.placed there.there in
    let inst : c.receiver_of-to.result.instance ≡ (receiver_of way place l call).instance = ap (λ (r : Receiver). r.instance) (c.receiver_of-to.ensures l is)
    ∙ same_instance way (c.len.result - 1) place l call in
    let r = c.in-Some.next.0 in
    let args : c.ask.new.values ≡ as_args (last_answer answers) r =
    c.ask.ensures.values ∙ ap (λ (n : ℕ). core_value.I32 n ∷ core_value.I32 r.old_size ∷ core_value.I32 r.align ∷ core_value.I32 r.size ∷ []) there.old in
    subst (λ (o : Option Request). GoesOnBy o (state_of s) place l way call p v rs answers (event_of c.ask.result c.ask.new.values) (state_of s)) (sym there.there)
    (subst (λ (i : ℕ). Asks (receiver_side l way).realloc i (as_args (last_answer answers) r) (state_of s) (event_of c.ask.result c.ask.new.values) (state_of s)) inst
    (asks_is (receiver_side l way).realloc c.receiver_of-to.result.instance (as_args (last_answer answers) r) c.ask.new.values (state_of s) c.ask.result some
    (asked_by c.realloc_of.result (receiver_side l way).realloc c.receiver_of-to.result.instance c.ask.result (c.realloc_of.ensures l is) c.ask.ensures.asked) args))

pub lower_flat_values-requires : goal.lower_flat_values-requires
lower_flat_values-requires c =
    let x = c.requires.on in
    let on = x.5 in
    let way = way_of c.args.way in
    let s = c.args.state.now in
    let l = x.1 in
    let call = c.args.call.now in
    let rs = asked_for l way (passage_now s) x.2 in
    let all = all_are c.records_ask_for_parts.ensures.call (memory_at s.memories (giver_of way l call)) l way s.passing.slots s.passing.scan x.2 on.under.encoded.0 on.under.encoded.1 on.under.carried in
    let none = none_there rs x.3 (c.in-None.ensures.next x.3 (answered_is s.passing.slots s.passing.scan rs x.3 all on.under.some on.under.answered) ∙ ap (λ (y : List Request). next_of y x.3) all) in
    let place : c.len.result - 1 ≡ length on.under.below = omega (arith, c.len.ensures.len, ap (λ (fs : List Frame). length fs) on.under.stack) in
    record {
      on = (
        x.0,
        l,
        call,
        x.2,
        x.3,
        x.4,
        record {
          on = on;
          all = none;
          giver_is = c.giver_of.ensures l x.4;
          to_is = c.receiver_of-to.ensures l x.4 ∙ ap (λ (n : ℕ). receiver_of way n l call) place;
        },
      );
    }

pub returns-in-Ok-clause-row : goal.returns-in-Ok-clause-row
returns-in-Ok-clause-row c = λ plan l v answers is on.
    let way = way_of c.args.way in
    let s = c.args.state.now in
    let call = c.args.call.now in
    let p = passage_now s in
    let rs = asked_for l way p v in
    let all = all_are c.records_ask_for_parts.ensures.call (memory_at s.memories (giver_of way l call)) l way s.passing.slots s.passing.scan v on.under.encoded.0 on.under.encoded.1 on.under.carried in
    let none = none_there rs answers (c.in-None.ensures.next answers (answered_is s.passing.slots s.passing.scan rs answers all on.under.some on.under.answered) ∙ ap (λ (y : List Request). next_of y answers) all) in
    let below : c.len.result - 1 ≡ length on.under.below = omega (arith, c.len.ensures.len, ap (λ (fs : List Frame). length fs) on.under.stack) in
    let tops : length (below_top s.stack.frames) ≡ length on.under.below = ap (λ (fs : List Frame). length (below_top fs)) on.under.stack in
    let can : CanHand plan s l way call v answers c.giver_of.result c.receiver_of-to.result =
    record { on = on; all = none; giver_is = c.giver_of.ensures l is; to_is = c.receiver_of-to.ensures l is ∙ ap (λ (n : ℕ). receiver_of way n l call) below } in
    let handed = c.in-Ok.ensures.hands plan l call v answers is can in
    let received = c.enter_or_exit.ensures.arrives l p is (sym c.lower_flat_values.ensures.slots) in
    let place : top_place (state_of c.lower_flat_values.new.state) ≡ top_place (state_of s) = ap (λ (fs : List Frame). length (below_top fs)) c.lower_flat_values.ensures.frames in
    hands_ok (state_of s) (state_of c.lower_flat_values.new.state) (state_of c.enter_or_exit.new.state) (top_place (state_of s)) l way call c.receiver_of-to.result p v answers c.lower_flat_values.new.values _
    (c.receiver_of-to.ensures l is ∙ ap (λ (n : ℕ). receiver_of way n l call) (below ∙ sym tops)) none handed
    (received_at way _ _ l call p c.lower_flat_values.new.values _ _ _ place received)

pub returns-in-Err-clause-row : goal.returns-in-Err-clause-row
returns-in-Err-clause-row c = λ plan l v answers is on.
    let way = way_of c.args.way in
    let s = c.args.state.now in
    let call = c.args.call.now in
    let p = passage_now s in
    let rs = asked_for l way p v in
    let all = all_are c.records_ask_for_parts.ensures.call (memory_at s.memories (giver_of way l call)) l way s.passing.slots s.passing.scan v on.under.encoded.0 on.under.encoded.1 on.under.carried in
    let none = none_there rs answers (c.in-None.ensures.next answers (answered_is s.passing.slots s.passing.scan rs answers all on.under.some on.under.answered) ∙ ap (λ (y : List Request). next_of y answers) all) in
    let below : c.len.result - 1 ≡ length on.under.below = omega (arith, c.len.ensures.len, ap (λ (fs : List Frame). length fs) on.under.stack) in
    let tops : length (below_top s.stack.frames) ≡ length on.under.below = ap (λ (fs : List Frame). length (below_top fs)) on.under.stack in
    let can : CanHand plan s l way call v answers c.giver_of.result c.receiver_of-to.result =
    record { on = on; all = none; giver_is = c.giver_of.ensures l is; to_is = c.receiver_of-to.ensures l is ∙ ap (λ (n : ℕ). receiver_of way n l call) below } in
    hands_err (state_of s) (state_of c.lower_flat_values.new.state) (top_place (state_of s)) l way call c.receiver_of-to.result p v answers c.in-Err.trap
    (c.receiver_of-to.ensures l is ∙ ap (λ (n : ℕ). receiver_of way n l call) (below ∙ sym tops)) none
    (c.in-Err.ensures.hands plan l call v answers is can) c.in-Err.ensures.unchanged

pub returns-in-Ok-clause-kept : goal.returns-in-Ok-clause-kept
returns-in-Ok-clause-kept c = λ plan l v answers is on.
    record {
      counted = (c.enter_or_exit.ensures.stays l is).counted _ on.under.below (c.lower_flat_values.ensures.frames ∙ on.under.stack) refl c.in-Ok.ensures.counted;
      encoded = (c.enter_or_exit.ensures.stays l is).encoded plan (subst (λ (fs : List Frame). IsStack plan fs) (sym c.lower_flat_values.ensures.frames) on.under.stands);
    }
