use Rattle.std.proofs.Common.{◌≡◌, ◌∙◌, ◌<◌, ◌≤◌, ◌^◌, ◌++◌, [], ◌∷◌, ap, sym, subst, ℕ, List, length, arith}
use Rattle.std.specs.Prelude.{slice_set}
use Rattle.cm_types.specs.declared.core_value.CoreValue.{CoreValue}
use Rattle.cm_types.specs.declared.limits.TheConstants.{MAX_FLAT_PARAMS}
use Rattle.cm_handles.specs.Handles.{Handles, IsSoundHandles}
use Rattle.cm_abi_model.specs.HandleLeaves.{owned_in}
use Rattle.cm_abi_model.specs.Receives.{leaves_in}
use Rattle.cm_abi_model.specs.Requests.{tuple_of}
use Rattle.cm_abi_model.specs.Taken.{lent_of, met}
use Rattle.cm_abi_model.specs.Views.{params}
use Rattle.cm_machine_model.specs.declared.event.Event.TheVariants as event
use Rattle.cm_machine_model.specs.declared.frame.Call.{Call}
use Rattle.cm_machine_model.specs.declared.frame.Frame.{Frame}
use Rattle.cm_machine_model.specs.declared.frame.Lend.{Lend}
use Rattle.cm_machine_model.specs.declared.frame.Phase.TheVariants as phase
use Rattle.cm_machine_model.specs.declared.frame.Purpose.TheVariants as purpose
use Rattle.cm_machine_model.specs.Passages.{IsScanned}
use Rattle.cm_machine_model.specs.Plan.{Reaches, types_of}
use Rattle.cm_machine_model.specs.State.{Passage, State, after_trap, lends_to, table_at}
use Rattle.cm_machine_model.specs.Step.{PassesArguments, after_lift_of_args, arg_slots, args_view, call_frame}
use Rattle.cm_machine_parts.specs.Kept.{IsEncoded}
use Rattle.cm_machine_parts.specs.Lends.{NoneAbove}
use Rattle.cm_machine_parts.specs.Stacks.{CountedFrames}
use Rattle.cm_machine_parts.specs.States.{state_of}
use Rattle.cm_machine_parts.specs.declared.passing.Passing.{Passing}
use Rattle.cm_machine_calls.specs.Calling.{HasArguments}
use Rattle.cm_machine_calls.specs.Going.{IsUnderWay, passage_now}
use Rattle.cm_machine_calls.specs.Lifting.{StopsLift, passage_in}
use Rattle.cm_machine_calls.proofs.CallLaws.{args_stop, args_under, call_is, frame_is, lends_refused, lifted_at, none_to_come, with_call}
use Rattle.cm_machine_calls.proofs.Standing.{few_slots, has_funcs, idle_at, lends_below, not_passing}
use Rattle.cm_machine_calls.proofs.enter.lift_arguments.Goals as goal
use Rattle.cm_machine_parts.proofs.Tables.{length_handles}
use Rattle.cm_machine_model.proofs.StackLaws.{some_stand}

pub lift_flat_values-requires-clause-link : goal.lift_flat_values-requires-clause-link
lift_flat_values-requires-clause-link c = (c.requires.may.1, c.requires.may.3.called.link_is)

pub lift_flat_values-requires-clause-table : goal.lift_flat_values-requires-clause-table
lift_flat_values-requires-clause-table c =
    let x = c.requires.may in
    let s = c.args.state.now in
    omega (arith, c.frames_have_instances.ensures.acts x.0 (state_of s) c.args.top.now x.3.called.runs.valid x.3.called.on_top, length_handles s.tables.items, c.actor-caller.ensures)

pub lift_flat_values-requires-clause-memory : goal.lift_flat_values-requires-clause-memory
lift_flat_values-requires-clause-memory c =
    let x = c.requires.may in
    omega (arith, has_funcs x.0 _ c.args.func x.1 x.3.called.reaches, x.3.called.runs.valid.memories, c.actor-caller.ensures)

pub lift_flat_values-requires-clause-lends : goal.lift_flat_values-requires-clause-lends
lift_flat_values-requires-clause-lends c =
    let x = c.requires.may in
    let s = c.args.state.now in
    lends_below (state_of s) c.actor-caller.result x.3.called.runs.valid.counted (subst (λ (ls : List Lend). length ls < 2 ^ 64) c.as_slice.ensures c.few_lends.ensures)

pub lift_flat_values-requires-clause-few : goal.lift_flat_values-requires-clause-few
lift_flat_values-requires-clause-few c =
    let x = c.requires.may in
    subst (λ (xs : List CoreValue). length xs ≤ MAX_FLAT_PARAMS) (sym x.3.given.slots_are) (few_slots x.1 x.2)

pub lift_flat_values-requires-clause-idle : goal.lift_flat_values-requires-clause-idle
lift_flat_values-requires-clause-idle c =
    let x = c.requires.may in
    let s = c.args.state.now in
    let runs = x.3.called.runs in
    not_passing s.passing.scan.has_value (passage_now s) (idle_at x.0 (state_of s) s.stack.frames c.args.top.now x.3.called.on_top runs.valid.stack runs.valid.passes x.3.leaves)

pub returns-in-Err : goal.returns-in-Err
returns-in-Err c = record {
  lifts = λ plan l args may.
      let s : State = state_of c.args.state.now in
      let i = c.actor-caller.result in
      let w = args_view s i l in
      let t = c.in-Err.trap in
      let stop : StopsLift w l params (arg_slots l args) t = subst (λ (xs : List CoreValue). StopsLift w l params xs t) may.given.slots_are (c.in-Err.ensures.lifts l (length s.stack) may.called.link_is) in
      subst (λ (n : ℕ). PassesArguments s n c.args.func l args (event.Trapped t) (after_trap (state_of c.lift_flat_values.new.state))) c.actor-caller.ensures
      (args_stop s (state_of c.lift_flat_values.new.state) i c.args.func l args t stop c.in-Err.ensures.unchanged);
}

pub push-requires : goal.push-requires
push-requires c = omega (arith, c.requires.may.3.room, ap (λ (k : CountedFrames). length k.frames) c.lift_flat_values.ensures.stack)

pub lend-requires : goal.lend-requires
lend-requires c =
    let x = c.requires.may in
    let s = c.args.state.now in
    let y = c.in-Ok.ensures.lifts x.1 (length s.stack.frames) x.3.called.link_is in
    let can = c.calls_can_end.ensures x.0 s x.3.called.runs (some_stand s.stack.frames c.args.top.now x.3.called.on_top) in
    subst (λ (n : ℕ). NoneAbove n c.lift_flat_values.new.state.lends) (sym c.len-place.ensures.len)
    (none_to_come s c.args.top.now c.lift_flat_values.new.state.lends x.3.called.on_top (ap (λ (z : State). z.lends) y.is) can.above)

pub returns-in-Ok-lend : goal.returns-in-Ok-lend
returns-in-Ok-lend c = record {
  lifts = λ plan l args may.
      let old = c.args.state.now in
      let mid = c.lift_flat_values.new.state in
      let new = c.lend.new.state in
      let s : State = state_of old in
      let i = c.actor-caller.result in
      let called = may.called in
      let runs = called.runs in
      let w = args_view s i l in
      let reaches : Reaches plan i c.args.func l = subst (λ (n : ℕ). Reaches plan n c.args.func l) (sym c.actor-caller.ensures) called.reaches in
      let x = lifted_at s (state_of mid) i c.len-place.result l args c.args.arguments.now.slots.now (passage_now mid) mid.passing.scan.lends may.given.slots_are c.len-place.ensures.len (c.in-Ok.ensures.lifts l (length s.stack) called.link_is) in
      let ms = met w params (types_of l params) (arg_slots l args) x.v in
      let there : i < length s.tables = omega (arith, c.frames_have_instances.ensures.acts plan s c.args.top.now runs.valid called.on_top, c.actor-caller.ensures) in
      let frames : c.push.new.self.frames ≡ call_frame i c.args.func l args ∷ s.stack = c.push.ensures.frames
      ∙ ap {B = List Frame} (λ (k : CountedFrames). record { instance = c.args.link.now.instance; purpose = purpose.Call (record { caller = i; func = c.args.func; result_at = c.args.arguments.now.result_at; phase = phase.Arguments }) } ∷ k.frames) c.lift_flat_values.ensures.stack
      ∙ ap (λ (f : Frame). f ∷ s.stack) (frame_is i c.args.func c.args.arguments.now.result_at c.args.link.now.instance l args called.link_is.instance_is may.given.place_is) in
      let same : passage_now mid ≡ passage_now new = sym (ap (λ (p : Passing). passage_in p.slots p.scan) c.lend.ensures.passing) in
      let lends : mid.lends ++ lends_to c.len-place.result i mid.passing.scan.lends ≡ s.lends ++ lends_to (length s.stack) i (lent_of ms) =
      ap (λ (z : State). z.lends ++ lends_to c.len-place.result i mid.passing.scan.lends) x.is
      ∙ ap (λ (n : ℕ). s.lends ++ lends_to n i mid.passing.scan.lends) c.len-place.ensures.len
      ∙ ap (λ (ns : List ℕ). s.lends ++ lends_to (length s.stack) i ns) x.lends_are in
      let here : state_of new ≡ after_lift_of_args s i c.args.func l args x.v (passage_now mid) =
      c.in-Ok-lend.ensures.ok ∙ with_call s (state_of mid) i (length s.stack) ms (passage_now mid) (call_frame i c.args.func l args) c.push.new.self.frames (mid.lends ++ lends_to c.len-place.result i mid.passing.scan.lends) (s.lends ++ lends_to (length s.stack) i (lent_of ms)) x.is frames lends in
      let is : state_of new ≡ after_lift_of_args s i c.args.func l args x.v (passage_now new) = subst (λ (p : Passage). state_of new ≡ after_lift_of_args s i c.args.func l args x.v p) same here in
      let scanned : IsScanned w l params (arg_slots l args) x.v (passage_now new) = subst (λ (p : Passage). IsScanned w l params (arg_slots l args) x.v p) same x.scanned in
      let tables : (state_of new).tables ≡ (state_of mid).tables = ap (λ (z : State). z.tables) c.in-Ok-lend.ensures.ok in
      let taken = c.what_a_value_owns_is_taken.ensures w params (types_of l params) (arg_slots l args) x.v x.denoted x.transferable in
      let borrows : new.stack.borrows ≡ slice_set old.stack.borrows (length old.stack.frames) 0 = ap (λ (k : CountedFrames). k.borrows) c.lend.ensures.stack ∙ c.push.ensures.borrows
      ∙ ap (λ (k : CountedFrames). slice_set k.borrows (length k.frames) 0) c.lift_flat_values.ensures.stack in
      let call = call_is i c.args.func c.args.arguments.now.result_at l args may.given.place_is in
      subst (λ (n : ℕ). HasArguments plan old new n c.args.func l args (record { caller = i; func = c.args.func; result_at = c.args.arguments.now.result_at; phase = phase.Arguments })) c.actor-caller.ensures
      (record {
        v = x.v;
        denoted = x.denoted;
        transferable = x.transferable;
        scanned = scanned;
        call_is = call;
        is = is;
        under = subst (λ (y : Call). IsUnderWay plan new l params y x.v []) (sym call)
            (args_under plan old new i c.args.func l args x.v c.args.top.now runs called.on_top (sym c.actor-caller.ensures) may.leaves may.room reaches there is scanned
            (ap (λ (p : Passing). p.scan.has_value) c.lend.ensures.passing ∙ c.in-Ok.ensures.passes)
            (subst (λ (p : Passing). IsEncoded l params p) (sym c.lend.ensures.passing) (c.in-Ok.ensures.encoded l called.link_is))
            (subst (λ (t : List Handles). IsSoundHandles (table_at t i)) (sym tables) x.sound)
            c.len-place.ensures.numbers
            borrows
            (c.frames_have_instances.ensures.unborrowed plan s l.instance runs.valid)
            (λ n. c.lifts_keep_borrows.ensures w.table ms (owned_in (leaves_in (tuple_of (types_of l params)) x.v)) n taken));
      });
}

pub returns-in-Err-lend : goal.returns-in-Err-lend
returns-in-Err-lend c = record {
  lifts = λ plan l args may.
      let old = c.args.state.now in
      let mid = c.lift_flat_values.new.state in
      let s : State = state_of old in
      let i = c.actor-caller.result in
      let called = may.called in
      let x = lifted_at s (state_of mid) i c.len-place.result l args c.args.arguments.now.slots.now (passage_now mid) mid.passing.scan.lends may.given.slots_are c.len-place.ensures.len (c.in-Ok.ensures.lifts l (length s.stack) called.link_is) in
      let frames : c.push.new.self.frames ≡ call_frame i c.args.func l args ∷ s.stack = c.push.ensures.frames
      ∙ ap {B = List Frame} (λ (k : CountedFrames). record { instance = c.args.link.now.instance; purpose = purpose.Call (record { caller = i; func = c.args.func; result_at = c.args.arguments.now.result_at; phase = phase.Arguments }) } ∷ k.frames) c.lift_flat_values.ensures.stack
      ∙ ap (λ (f : Frame). f ∷ s.stack) (frame_is i c.args.func c.args.arguments.now.result_at c.args.link.now.instance l args called.link_is.instance_is may.given.place_is) in
      subst (λ (n : ℕ). PassesArguments s n c.args.func l args (event.Trapped c.in-Err-lend.trap) (after_trap (state_of c.lend.new.state))) c.actor-caller.ensures
      (lends_refused s (state_of mid) i c.args.func l args (passage_now mid) mid.passing.scan.lends c.push.new.self.frames c.in-Err-lend.trap x frames c.in-Err-lend.ensures.some c.in-Err-lend.ensures.err (state_of c.lend.new.state) c.in-Err-lend.ensures.unchanged);
}
