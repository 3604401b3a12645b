use Rattle.std.proofs.Common.{◌≡◌, ◌∙◌, ◌≤◌, ◌∷◌, inl, ap, sym, subst, refl, ℕ, List, length, arith}
use Rattle.std.specs.Prelude.{slice_set}
use Rattle.cm_types.specs.declared.core_value.CoreValue.{CoreValue}
use Rattle.cm_types.specs.declared.limits.TheConstants.{MAX_FLAT_PARAMS}
use Rattle.cm_layout.specs.Flattening.{flat_of_fields}
use Rattle.cm_abi_model.specs.Views.{params}
use Rattle.cm_abi_slots.specs.Passing.{PassesNumbers}
use Rattle.cm_machine_model.specs.Plan.{types_of}
use Rattle.cm_machine_model.specs.Rows.{at}
use Rattle.cm_machine_model.specs.Stack.{actor}
use Rattle.cm_machine_model.specs.State.{State}
use Rattle.cm_machine_model.specs.Step.{PassesArguments, arg_slots, args_view}
use Rattle.cm_machine_model.specs.declared.event.Event.{Event}
use Rattle.cm_machine_model.specs.declared.event.Event.TheVariants as event
use Rattle.cm_machine_model.specs.declared.frame.Frame.{Frame}
use Rattle.cm_machine_model.specs.declared.frame.Phase.TheVariants as phase
use Rattle.cm_machine_model.specs.declared.frame.Purpose.TheVariants as purpose
use Rattle.cm_machine_parts.specs.Kept.{AreBorrowsCounted, IsEncodedAtTop}
use Rattle.cm_machine_parts.specs.States.{state_of}
use Rattle.cm_machine_calls.specs.Lifting.{StopsLift}
use Rattle.cm_machine_calls.proofs.CallLaws.{args_stop}
use Rattle.cm_machine_calls.proofs.NumberLaws.{args_kinds, as_many, body_frame, body_is, enters}
use Rattle.cm_machine_calls.proofs.Standing.{few_slots, idle_at}
use Rattle.cm_machine_calls.proofs.numbers.enter_with_numbers.Goals as goal

pub pass_numbers-requires-clause-few : goal.pass_numbers-requires-clause-few
pass_numbers-requires-clause-few c =
    let x = c.requires.may in
    subst (λ (xs : List CoreValue). length xs ≤ MAX_FLAT_PARAMS) (sym x.3.given.slots_are) (few_slots x.1 x.2)

pub pass_numbers-requires-clause-each : goal.pass_numbers-requires-clause-each
pass_numbers-requires-clause-each c =
    let x = c.requires.may in
    let l = x.1 in
    let are = c.requires.steps l x.3.called.link_is in
    as_many c.args.arguments.now.slots.now (flat_of_fields (types_of l params)) c.args.steps.now (args_kinds l x.2 c.args.arguments.now.slots.now c.args.steps.now x.3.given.shape x.3.given.slots_are are)
    (c.each_core_value_has_a_step.ensures params (types_of l params) c.args.steps.now are)

pub returns-in-Err-clause-row : goal.returns-in-Err-clause-row
returns-in-Err-clause-row c = λ plan l args may.
    let s : State = state_of c.args.state.now in
    let i = actor c.args.top.now in
    let w = args_view s i l in
    let slots = c.args.arguments.now.slots.now in
    let are = c.requires.steps l may.called.link_is in
    let stop : StopsLift w l params slots c.in-Err.trap = inl (c.in-Err.ensures.passes w params (types_of l params) are (args_kinds l args slots c.args.steps.now may.given.shape may.given.slots_are are)) in
    args_stop s s i c.args.func l args c.in-Err.trap (subst (λ (xs : List CoreValue). StopsLift w l params xs c.in-Err.trap) may.given.slots_are stop) refl

pub returns-clause-row : goal.returns-clause-row
returns-clause-row c = λ plan l args may.
    let s : State = state_of c.args.state.now in
    let i = actor c.args.top.now in
    let w = args_view s i l in
    let link = c.args.link.now in
    let slots = c.args.arguments.now.slots.now in
    let values : List CoreValue = c.pass_numbers.new.values in
    let called = may.called in
    let are = c.requires.steps l called.link_is in
    let got = c.in-Ok.ensures.passes w params (types_of l params) are (args_kinds l args slots c.args.steps.now may.given.shape may.given.slots_are are) in
    let n : PassesNumbers w params (types_of l params) (arg_slots l args) values got.0 = subst (λ (xs : List CoreValue). PassesNumbers w params (types_of l params) xs values got.0) may.given.slots_are got.1 in
    let there = c.what_is_met_is_the_values_handles.ensures w params (types_of l params) (arg_slots l args) got.0 n.denoted in
    let idle = idle_at plan s s.stack c.args.top.now called.on_top called.runs.valid.stack called.runs.valid.passes may.leaves in
    let frames : c.push.new.self.frames ≡ body_frame i c.args.func l args ∷ s.stack = c.push.ensures.frames
    ∙ ap (λ (f : Frame). f ∷ s.stack) (body_is c.actor.result i c.args.func c.args.arguments.now.result_at link.instance l args c.actor.ensures called.link_is.instance_is may.given.place_is) in
    let is : ◌≡◌ {A = Event} (event.Enter link.instance link.func values) (event.Enter l.instance l.func values) =
    ap (λ (x : ℕ). event.Enter x link.func values) called.link_is.instance_is ∙ ap (λ (x : ℕ). event.Enter l.instance x values) called.link_is.func_is in
    at (PassesArguments s i c.args.func l args) (event.Enter link.instance link.func values) (event.Enter l.instance l.func values) (record s { stack = c.push.new.self.frames }) (record s { stack = body_frame i c.args.func l args ∷ s.stack })
    is (ap {B = State} (λ (fs : List Frame). record s { stack = fs }) frames) (enters s i c.args.func l args values got.0 there n idle)

pub returns-clause-kept : goal.returns-clause-kept
returns-clause-kept c = λ plan l args may.
    let old = c.args.state.now in
    let s : State = state_of old in
    let fs = old.stack.frames in
    let runs = may.called.runs in
    let f : Frame = record {
      instance = c.args.link.now.instance;
      purpose = purpose.Call (record { caller = c.actor.result; func = c.args.func; result_at = c.args.arguments.now.result_at; phase = phase.Body });
    } in
    let pushed = c.what_is_kept_stays.ensures.pushed old.stack.borrows f fs s.tables runs.kept.counted (omega (arith, c.len.ensures.numbers, may.room))
    (c.frames_have_instances.ensures.unborrowed plan s f.instance runs.valid) in
    record {
      counted = subst (λ (b : List ℕ). AreBorrowsCounted b c.push.new.self.frames s.tables) (sym c.push.ensures.borrows)
          (subst (λ (gs : List Frame). AreBorrowsCounted (slice_set old.stack.borrows (length fs) 0) gs s.tables) (sym c.push.ensures.frames) pushed);
      encoded = subst (λ (gs : List Frame). IsEncodedAtTop plan old.passing gs) (sym c.push.ensures.frames) (λ m reaches. tt);
    }
