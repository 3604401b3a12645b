use Rattle.std.proofs.Common.{◌≡◌, ◌∙◌, ◌^◌, ◌<◌, length, ap, subst}
use Rattle.std.specs.List.{All}
use Rattle.std.specs.Prelude.{replicate}
use Rattle.cm_abi_model.specs.Answering.{IsGood}
use Rattle.cm_abi_model.specs.Receives.{Receives}
use Rattle.cm_abi_model.specs.Views.{View}
use Rattle.cm_abi_model.specs.Ways.{way_of}
use Rattle.cm_abi_model.specs.Giving.{Gives}
use Rattle.cm_abi.specs.Lowers.{IsReceiving, given_for, handles_passed, tuple_in}
use Rattle.cm_abi.proofs.PokeLemmas.{zeros_length}
use Rattle.cm_abi.proofs.ReadyLemmas.{apart, call_stored, final_slots, framed, given_is, placed, provided, puts, ready, received, served, slots_fit}
use Rattle.cm_abi.proofs.lowering.lower.Goals as goal

pub store_call-requires : goal.store_call-requires
store_call-requires c =
    let types = c.requires.lowerable.0 in
    let can = c.requires.lowerable.1 in
    let all = ready c.args.passing.now types c.what_is_typed_can_be_lowered.ensures.spelled c.what_is_typed_can_be_lowered.ensures.counted c.cases_fit.ensures can in
    let seen = c.deref.ensures.value ∙ c.in-Ok.ensures.requests types can.layout can.typed in
    let gives = c.in_ok-numbers.ensures.gives types can.layout can.typed in
    let is = given_is c.args.passing.now types c.args.to c.args.table.now.handles c.give_values.new.table.handles c.args.answers.now all c.deref-2.result.now c.deref-3.result.now c.deref.result.now
    seen (c.deref-2.ensures.value ∙ c.in_ok-places.ensures.places) (c.deref-3.ensures.value ∙ gives.numbers) in
    let stand = placed c.args.passing.now types c.args.to c.args.table.now.handles c.give_values.new.table.handles c.args.answers.now all (length c.args.memory.now) c.deref.result.now
    c.answers_place_parts.ensures.placed seen (c.requires.answered types can) c.in_ok-places.ensures.each in
    let zeros : c.deref_mut-slots.result.now ≡ replicate (length c.args.passing.now.kinds.now) 0 = c.deref_mut-slots.ensures.value ∙ c.in_ok-zeros.ensures.slots in
    let long = ap length zeros ∙ zeros_length (length c.args.passing.now.kinds.now) in (
      way_of c.args.passing.now.way,
      types,
      c.flat_limit.ensures,
      can.layout,
      rw is (provided c.args.passing.now types c.args.to c.args.table.now.handles c.give_values.new.table.handles c.args.answers.now all (length c.args.memory.now) (length c.deref_mut-slots.result.now)
          (c.requires.answered types can) stand long),
    )

pub put_core_values-requires-clause-fit : goal.put_core_values-requires-clause-fit
put_core_values-requires-clause-fit c =
    let types = c.requires.lowerable.0 in
    let can = c.requires.lowerable.1 in
    let all = ready c.args.passing.now types c.what_is_typed_can_be_lowered.ensures.spelled c.what_is_typed_can_be_lowered.ensures.counted c.cases_fit.ensures can in
    let seen = c.deref.ensures.value ∙ c.in-Ok.ensures.requests types can.layout can.typed in
    let gives = c.in_ok-numbers.ensures.gives types can.layout can.typed in
    let is = given_is c.args.passing.now types c.args.to c.args.table.now.handles c.give_values.new.table.handles c.args.answers.now all c.deref-2.result.now c.deref-3.result.now c.deref.result.now
    seen (c.deref-2.ensures.value ∙ c.in_ok-places.ensures.places) (c.deref-3.ensures.value ∙ gives.numbers) in
    let stand = placed c.args.passing.now types c.args.to c.args.table.now.handles c.give_values.new.table.handles c.args.answers.now all (length c.args.memory.now) c.deref.result.now
    c.answers_place_parts.ensures.placed seen (c.requires.answered types can) c.in_ok-places.ensures.each in
    let zeros : c.deref_mut-slots.result.now ≡ replicate (length c.args.passing.now.kinds.now) 0 = c.deref_mut-slots.ensures.value ∙ c.in_ok-zeros.ensures.slots in
    let put = puts c.args.passing.now types c.args.to c.args.table.now.handles c.give_values.new.table.handles c.args.answers.now all (length c.args.memory.now) c.requires.few (c.requires.answered types can) stand (subst (λ ns. All (λ m. m < 2 ^ 32) ns) gives.numbers gives.small) in
    let passed = c.store_call.ensures.passed (way_of c.args.passing.now.way) types c.flat_limit.ensures can.layout can.typed in
    let slots = final_slots c.args.passing.now types c.args.to c.args.table.now.handles c.give_values.new.table.handles c.args.answers.now all _ c.deref_mut-slots.result.now c.store_call.new.slots is passed zeros in
    (slots_fit c.args.passing.now types c.args.to c.args.table.now.handles c.give_values.new.table.handles c.args.answers.now all put.0 c.store_call.new.slots put.1 slots)

pub returns-clause-lowered : goal.returns-clause-lowered
returns-clause-lowered c = λ types can.
    let all = ready c.args.passing.now types c.what_is_typed_can_be_lowered.ensures.spelled c.what_is_typed_can_be_lowered.ensures.counted c.cases_fit.ensures can in
    let seen = c.deref.ensures.value ∙ c.in-Ok.ensures.requests types can.layout can.typed in
    let gives = c.in_ok-numbers.ensures.gives types can.layout can.typed in
    let is = given_is c.args.passing.now types c.args.to c.args.table.now.handles c.give_values.new.table.handles c.args.answers.now all c.deref-2.result.now c.deref-3.result.now c.deref.result.now
    seen (c.deref-2.ensures.value ∙ c.in_ok-places.ensures.places) (c.deref-3.ensures.value ∙ gives.numbers) in
    let stand = placed c.args.passing.now types c.args.to c.args.table.now.handles c.give_values.new.table.handles c.args.answers.now all (length c.args.memory.now) c.deref.result.now
    c.answers_place_parts.ensures.placed seen (c.requires.answered types can) c.in_ok-places.ensures.each in
    let zeros : c.deref_mut-slots.result.now ≡ replicate (length c.args.passing.now.kinds.now) 0 = c.deref_mut-slots.ensures.value ∙ c.in_ok-zeros.ensures.slots in
    let put = puts c.args.passing.now types c.args.to c.args.table.now.handles c.give_values.new.table.handles c.args.answers.now all (length c.args.memory.now) c.requires.few (c.requires.answered types can) stand (subst (λ ns. All (λ m. m < 2 ^ 32) ns) gives.numbers gives.small) in
    let passed = c.store_call.ensures.passed (way_of c.args.passing.now.way) types c.flat_limit.ensures can.layout can.typed in
    let slots = final_slots c.args.passing.now types c.args.to c.args.table.now.handles c.give_values.new.table.handles c.args.answers.now all _ c.deref_mut-slots.result.now c.store_call.new.slots is passed zeros in
    let bytes = call_stored c.args.passing.now types c.args.to c.args.table.now.handles c.give_values.new.table.handles c.args.answers.now all _ c.args.memory.now c.store_call.new.memory is
    (c.store_call.ensures.stored (way_of c.args.passing.now.way) types c.flat_limit.ensures can.layout can.typed) in
    let clear = apart c.args.passing.now types c.args.to c.args.table.now.handles c.give_values.new.table.handles c.args.answers.now all c.deref.result.now c.answers_place_parts.ensures.apart seen (c.requires.answered types can) c.in_ok-places.ensures.apart in
    let given = subst (λ ns. Gives c.args.to c.args.table.now.handles c.give_values.new.table.handles (handles_passed c.args.passing.now types) ns) gives.numbers gives in
    let has : (w : View) → IsReceiving w c.args.passing.now c.args.to c.store_call.new.memory c.give_values.new.table.handles
    → Receives w (way_of c.args.passing.now.way) types c.put_core_values.new.values.items (given_for c.args.passing.now types c.args.to c.args.table.now.handles c.args.answers.now) (tuple_in c.args.passing.now) =
    λ w view.
    received c.args.passing.now types c.args.to c.args.table.now.handles c.give_values.new.table.handles c.args.answers.now all w put.0 c.args.memory.now c.store_call.new.memory c.put_core_values.new.values.items c.what_is_stored_stays.ensures c.places_are_read_alike.ensures.placed c.places_are_read_alike.ensures.apart view stand clear put.1
    given
    c.store_call.ensures.stays bytes c.put_core_values.ensures.kinds (c.put_core_values.ensures.numbers ∙ slots) in
    record {
      received = has;
      denoted = λ w view encoding none.
          c.what_is_received_is_denoted.ensures w (way_of c.args.passing.now.way) types c.put_core_values.new.values.items _ _ (has w view)
          (served c.args.passing.now types c.args.to c.args.table.now.handles c.give_values.new.table.handles c.args.answers.now all w c.args.memory.now c.store_call.new.memory c.requires.few view encoding c.store_call.ensures.stays stand gives.sound) none;
      framed = framed c.args.passing.now types c.args.to c.args.table.now.handles c.give_values.new.table.handles c.args.answers.now all c.args.memory.now c.store_call.new.memory c.what_is_stored_stays.ensures stand clear bytes;
      handles = given;
      answers_are_good = subst (λ rs. IsGood (length c.args.memory.now) rs c.args.answers.now) seen (record { each = c.in_ok-places.ensures.each; apart = c.in_ok-places.ensures.apart });
    }
