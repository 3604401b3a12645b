use Rattle.std.proofs.Common.{◌≡◌, ◌∙◌, ◌-◌, ◌<◌, ◌^◌, ap, sym, subst, ℕ, List, length, arith}
use Rattle.cm_handles.specs.Handles.{Handles, IsSoundHandles}
use Rattle.cm_abi_model.specs.Receives.{leaves_in}
use Rattle.cm_abi_model.specs.HandleLeaves.{owned_in}
use Rattle.cm_abi_model.specs.Requests.{tuple_of}
use Rattle.cm_abi_model.specs.Taken.{MAX_CONTENT, met}
use Rattle.cm_abi_model.specs.Views.{results}
use Rattle.cm_machine_model.specs.declared.frame.Lend.{Lend}
use Rattle.cm_machine_model.specs.declared.frame.Phase.{Phase}
use Rattle.cm_machine_model.specs.declared.frame.Purpose.{Purpose}
use Rattle.cm_machine_model.specs.Passages.{IsScanned}
use Rattle.cm_machine_model.specs.Plan.{types_of}
use Rattle.cm_machine_model.specs.State.{Passage, State, table_at, view_of}
use Rattle.cm_machine_model.specs.Step.{after_lift_of_result, result_view, top_place}
use Rattle.cm_machine_model.specs.Valid.{PassesFor, PassesIn}
use Rattle.cm_machine_parts.specs.Kept.{IsEncoded}
use Rattle.cm_machine_parts.specs.Stacks.{CountedFrames}
use Rattle.cm_machine_parts.specs.States.{state_of}
use Rattle.cm_machine_parts.specs.declared.passing.Passing.{Passing}
use Rattle.cm_machine_calls.specs.Going.{passage_now}
use Rattle.cm_machine_calls.specs.Lifting.{IsLifted, StopsLift, passage_in}
use Rattle.cm_machine_calls.proofs.ReturnLaws.{result_state, result_under}
use Rattle.cm_machine_calls.proofs.Standing.{lends_below, link_of, not_passing, passes_at, top_call, top_high}
use Rattle.cm_machine_calls.proofs.exit.lift_result.Goals as goal
use Rattle.cm_machine_parts.proofs.Tables.{length_handles}
use Rattle.cm_machine_laws.proofs.LentLeaves.{none_lent}
use Rattle.cm_machine_model.proofs.StackLaws.{some_stand}

pub lift_flat_values-requires-clause-link : goal.lift_flat_values-requires-clause-link
lift_flat_values-requires-clause-link c = (c.requires.returned.1, c.requires.returned.2.link_is)

pub lift_flat_values-requires-clause-table : goal.lift_flat_values-requires-clause-table
lift_flat_values-requires-clause-table c =
    let x = c.requires.returned in
    let y = x.2 in
    let s = c.args.state.now in
    let top = top_call x.0 x.1 c.args.call.now s.stack.frames y.top y.runs.valid.stack y.on_top y.is_call y.reaches in
    omega (arith, top.there, y.link_is.instance_is, y.runs.valid.tables, length_handles s.tables.items)

pub lift_flat_values-requires-clause-memory : goal.lift_flat_values-requires-clause-memory
lift_flat_values-requires-clause-memory c =
    let x = c.requires.returned in
    let y = x.2 in
    let s = c.args.state.now in
    let top = top_call x.0 x.1 c.args.call.now s.stack.frames y.top y.runs.valid.stack y.on_top y.is_call y.reaches in
    omega (arith, top.there, y.link_is.instance_is, y.runs.valid.memories)

pub lift_flat_values-requires-clause-lends : goal.lift_flat_values-requires-clause-lends
lift_flat_values-requires-clause-lends c =
    lends_below (state_of c.args.state.now) c.args.link.now.instance c.requires.returned.2.runs.valid.counted (subst (λ (ls : List Lend). length ls < 2 ^ 64) c.as_slice.ensures c.few_lends.ensures)

pub lift_flat_values-requires-clause-idle : goal.lift_flat_values-requires-clause-idle
lift_flat_values-requires-clause-idle c =
    let x = c.requires.returned in
    let y = x.2 in
    let s = c.args.state.now in
    let call = c.args.call.now in
    let passes : PassesFor x.0 (state_of s) y.top.purpose = passes_at x.0 (state_of s) s.stack.frames y.top y.on_top y.runs.valid.passes in
    let in_call : PassesIn call.phase (state_of s) x.1 call (state_of s).passage = subst (λ (q : Purpose). PassesFor x.0 (state_of s) q) y.is_call passes x.1 y.reaches in
    not_passing s.passing.scan.has_value (passage_now s) (subst (λ (q : Phase). PassesIn q (state_of s) x.1 call (state_of s).passage) c.requires.body in_call)

pub put_phase-requires : goal.put_phase-requires
put_phase-requires c =
    let y = c.requires.returned.2 in
    omega (arith, some_stand c.args.state.now.stack.frames y.top y.on_top, ap (λ (k : CountedFrames). length k.frames) c.lift_flat_values.ensures.stack)

pub returns-in-Err-clause-lifts : goal.returns-in-Err-clause-lifts
returns-in-Err-clause-lifts c = λ plan l y.
    let s : State = state_of c.args.state.now in
    subst (λ (n : ℕ). StopsLift (view_of s n l.callee.encoding (top_place s)) l results c.args.given.now c.in-Err.trap) y.link_is.instance_is (c.in-Err.ensures.lifts l (top_place s) y.link_is)

pub returns-clause-lifts : goal.returns-clause-lifts
returns-clause-lifts c = λ plan l y.
    let old = c.args.state.now in
    let mid = c.lift_flat_values.new.state in
    let new = c.put_phase.new.state in
    let s : State = state_of old in
    let given = c.args.given.now in
    let call = c.args.call.now in
    let w = result_view s l in
    let place : c.len.result - 1 ≡ top_place s = omega (arith, c.len.ensures.len, top_high s.stack y.top y.on_top) in
    let x : IsLifted s (state_of mid) w l results l.instance (top_place s) given (passage_now mid) mid.passing.scan.lends =
    subst (λ (n : ℕ). IsLifted s (state_of mid) w l results l.instance n given (passage_now mid) mid.passing.scan.lends) place
    (subst (λ (n : ℕ). IsLifted s (state_of mid) (view_of s n l.callee.encoding (top_place s)) l results n (c.len.result - 1) given (passage_now mid) mid.passing.scan.lends) y.link_is.instance_is
    (c.in-Ok.ensures.lifts l (top_place s) y.link_is)) in
    let ms = met w results (types_of l results) given x.v in
    let link = link_of plan call.caller call.func l y.runs.valid.linked y.reaches in
    let top = top_call plan l call s.stack y.top y.runs.valid.stack y.on_top y.is_call y.reaches in
    let none = none_lent w.table ms (leaves_in (tuple_of (types_of l results)) x.v) (c.what_is_met_is_the_values_handles.ensures w results (types_of l results) given x.v x.denoted) (link.none_lent_back x.v) in
    let same : passage_now mid ≡ passage_now new = sym (ap (λ (p : Passing). passage_in p.slots p.scan) c.put_phase.ensures.passing) in
    let here : state_of new ≡ after_lift_of_result s l call given x.v (passage_now mid) = c.put_phase.ensures.phase l y.link_is ∙ result_state s (state_of mid) l call (top_place s) ms (passage_now mid) x.is none in
    let is : state_of new ≡ after_lift_of_result s l call given x.v (passage_now new) = subst (λ (p : Passage). state_of new ≡ after_lift_of_result s l call given x.v p) same here in
    let scanned : IsScanned w l results given x.v (passage_now new) = subst (λ (p : Passage). IsScanned w l results given x.v p) same x.scanned in
    let lends : new.lends ≡ old.lends = ap (λ (z : State). z.lends) (c.put_phase.ensures.phase l y.link_is) ∙ ap (λ (z : State). z.lends) x.is in
    let tables : (state_of new).tables ≡ (state_of mid).tables = ap (λ (z : State). z.tables) (c.put_phase.ensures.phase l y.link_is) in
    let there : l.instance < length s.tables = omega (arith, top.there, y.runs.valid.tables) in
    let taken = c.what_a_value_owns_is_taken.ensures w results (types_of l results) given x.v x.denoted x.transferable in
    record {
      v = x.v;
      denoted = x.denoted;
      transferable = x.transferable;
      scanned = scanned;
      is = is;
      under = result_under plan old new l call given x.v y.top y.runs y.on_top y.is_call y.reaches is lends scanned
          (ap (λ (p : Passing). p.scan.has_value) c.put_phase.ensures.passing ∙ c.in-Ok.ensures.passes)
          (subst (λ (p : Passing). IsEncoded l results p) (sym c.put_phase.ensures.passing) (c.in-Ok.ensures.encoded l y.link_is))
          (subst (λ (t : List Handles). IsSoundHandles (table_at t l.instance)) (sym tables) x.sound)
          c.len.ensures.numbers
          (c.put_phase.ensures.borrows ∙ ap (λ (k : CountedFrames). k.borrows) c.lift_flat_values.ensures.stack)
          (λ n. c.lifts_keep_borrows.ensures w.table ms (owned_in (leaves_in (tuple_of (types_of l results)) x.v)) n taken)
          (c.calls_can_end.ensures plan old y.runs (some_stand old.stack.frames y.top y.on_top))
          x.transferable
          (c.what_is_handed_over_is_counted.ensures w.table MAX_CONTENT ms (c.what_is_met_stands.ensures w results (types_of l results) given x.v x.denoted) x.transferable (y.runs.valid.sound l.instance));
    }
