use Rattle.std.proofs.Common.{◌≡◌, false, sym, subst}
use Rattle.cm_machine_model.specs.Events.{is_last}
use Rattle.cm_machine_model.specs.declared.event.Event.{Event}
use Rattle.cm_machine_model.specs.declared.event.Event.TheVariants as event
use Rattle.cm_machine_model.specs.Plan.{Plan}
use Rattle.cm_machine_model.specs.State.{State}
use Rattle.cm_machine_model.specs.Step.{Moves, Step}
use Rattle.cm_machine_parts.specs.Rows.{event_of}
use Rattle.cm_machine_parts.specs.States.{state_of}
use Rattle.cm_machine_set.proofs.GoesOn.{step_goes_on}
use Rattle.cm_machine_set.proofs.Steps.{step_of}
use Rattle.cm_machine_set.proofs.set.step_at.Goals as goal

pub returns-in-Ok-clause-step : goal.returns-in-Ok-clause-step
returns-in-Ok-clause-step c plan planned runs =
    subst (λ (e : Event). Step plan (state_of c.args.state.now) c.args.made.now e (state_of c.advance.new.state)) (sym c.forget_behind_trap.ensures.event)
    (step_of plan (state_of c.args.state.now) c.args.top.now c.args.made.now (event_of c.in-Ok.outcome c.advance.new.values) (state_of c.advance.new.state) c.requires.top (c.in-Ok.ensures.row plan planned runs))

pub returns-in-Ok-clause-runs : goal.returns-in-Ok-clause-runs
returns-in-Ok-clause-runs c plan planned runs =
    let s : State = state_of c.args.state.now in
    let e : Event = event_of c.in-Ok.outcome c.advance.new.values in
    let step : Step plan s c.args.made.now e (state_of c.advance.new.state) = step_of plan s c.args.top.now c.args.made.now e (state_of c.advance.new.state) c.requires.top (c.in-Ok.ensures.row plan planned runs) in
    record { valid = c.machine_stays_valid.ensures plan s c.args.made.now e (state_of c.advance.new.state) runs.valid c.requires.bytes step; kept = c.in-Ok.ensures.kept plan planned runs }

pub returns-in-Ok-clause-goes_on : goal.returns-in-Ok-clause-goes_on
returns-in-Ok-clause-goes_on c last =
    let s : State = state_of c.args.state.now in
    let e : Event = event_of c.in-Ok.outcome c.advance.new.values in
    let plan : Plan = c.requires.runs.0 in
    let step : Step plan s c.args.made.now e (state_of c.advance.new.state) = step_of plan s c.args.top.now c.args.made.now e (state_of c.advance.new.state) c.requires.top (c.in-Ok.ensures.row plan c.requires.runs.1 c.requires.runs.2) in
    step_goes_on plan s c.args.made.now e (state_of c.advance.new.state) c.requires.runs.2.valid.stack step (subst (λ (x : Event). is_last x ≡ false) c.forget_behind_trap.ensures.event last)

pub returns-in-Err-clause-step : goal.returns-in-Err-clause-step
returns-in-Err-clause-step c plan planned runs =
    let s : State = state_of c.args.state.now in
    let moves : Moves plan s c.args.top.now c.args.made.now (event.Trapped c.in-Err.trap) (state_of c.close_all.new.state) = subst (λ (x : State). Moves plan s c.args.top.now c.args.made.now (event.Trapped c.in-Err.trap) x) (sym c.close_all.ensures.trapped) (c.in-Err.ensures.row plan planned runs) in
    step_of plan s c.args.top.now c.args.made.now (event.Trapped c.in-Err.trap) (state_of c.close_all.new.state) c.requires.top moves

pub returns-in-Err-clause-runs : goal.returns-in-Err-clause-runs
returns-in-Err-clause-runs c plan planned runs =
    let s : State = state_of c.args.state.now in
    let moves : Moves plan s c.args.top.now c.args.made.now (event.Trapped c.in-Err.trap) (state_of c.close_all.new.state) = subst (λ (x : State). Moves plan s c.args.top.now c.args.made.now (event.Trapped c.in-Err.trap) x) (sym c.close_all.ensures.trapped) (c.in-Err.ensures.row plan planned runs) in
    let step : Step plan s c.args.made.now (event.Trapped c.in-Err.trap) (state_of c.close_all.new.state) = step_of plan s c.args.top.now c.args.made.now (event.Trapped c.in-Err.trap) (state_of c.close_all.new.state) c.requires.top moves in
    record { valid = c.machine_stays_valid.ensures plan s c.args.made.now (event.Trapped c.in-Err.trap) (state_of c.close_all.new.state) runs.valid c.requires.bytes step; kept = c.close_all.ensures.kept plan }
