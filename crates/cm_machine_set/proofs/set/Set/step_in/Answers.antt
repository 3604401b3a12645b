use Rattle.std.proofs.Common.{refl, sym, subst}
use Rattle.cm_machine_model.specs.declared.event.Event.{Event}
use Rattle.cm_machine_model.specs.Step.{Step}
use Rattle.cm_machine_model.specs.Valid.{IsValidState}
use Rattle.cm_machine_links.specs.Planned.{ArePlanned}
use Rattle.cm_machine_parts.specs.Kept.{Runs}
use Rattle.cm_machine_parts.specs.Rows.{event_of}
use Rattle.cm_machine_parts.specs.States.{state_of}
use Rattle.cm_machine_set.specs.Running.{RunningSet}
use Rattle.cm_machine_set.proofs.Planned.{kept_any}
use Rattle.cm_machine_set.proofs.set.Set.step_in.Goals as goal

pub invariant_of-self : goal.invariant_of-self
invariant_of-self c = (c.self.invariant.0, c.self.invariant.1, c.step_at-outcome.ensures.runs c.self.invariant.0 c.self.invariant.1 c.self.invariant.2)

pub returns-clause-step : goal.returns-clause-step
returns-clause-step c plan planned valid =
    let inside = c.self.inside in
    let ps : ArePlanned plan inside.links = subst (λ (x : RunningSet). ArePlanned plan x.links) (sym c.self.view_is) planned in
    let v : IsValidState plan (state_of inside.state) = subst (λ (x : RunningSet). IsValidState plan x.state) (sym c.self.view_is) valid in
    let runs : Runs plan inside.state = record { valid = v; kept = kept_any inside.links c.self.invariant.0 plan inside.state c.self.invariant.1 ps c.self.invariant.2.kept } in
    subst (λ (x : RunningSet). Step plan x.state c.args.made.now (event_of c.step_at-outcome.result c.step_at-outcome.new.values) (state_of c.step_at-outcome.new.state)) c.self.view_is (c.step_at-outcome.ensures.step plan ps runs)

pub returns-clause-history : goal.returns-clause-history
returns-clause-history c plan pages h planned is =
    let inside = c.self.inside in
    let ps : ArePlanned plan inside.links = subst (λ (x : RunningSet). ArePlanned plan x.links) (sym c.self.view_is) planned in
    let valid : IsValidState plan c.args.self.now.state = c.histories_are_valid.ensures plan pages h c.args.self.now.state is in
    let v : IsValidState plan (state_of inside.state) = subst (λ (x : RunningSet). IsValidState plan x.state) (sym c.self.view_is) valid in
    let runs : Runs plan inside.state = record { valid = v; kept = kept_any inside.links c.self.invariant.0 plan inside.state c.self.invariant.1 ps c.self.invariant.2.kept } in
    let e : Event = event_of c.step_at-outcome.result c.step_at-outcome.new.values in
    let step : Step plan c.args.self.now.state c.args.made.now e (state_of c.step_at-outcome.new.state) = subst (λ (x : RunningSet). Step plan x.state c.args.made.now e (state_of c.step_at-outcome.new.state)) c.self.view_is (c.step_at-outcome.ensures.step plan ps runs) in
    record { linked = is.linked; pages_fit = is.pages_fit; history = (is.history, (c.moves_write_bytes.ensures, step), refl) }

pub returns-clause-valid : goal.returns-clause-valid
returns-clause-valid c plan planned valid =
    let inside = c.self.inside in
    let ps : ArePlanned plan inside.links = subst (λ (x : RunningSet). ArePlanned plan x.links) (sym c.self.view_is) planned in
    let v : IsValidState plan (state_of inside.state) = subst (λ (x : RunningSet). IsValidState plan x.state) (sym c.self.view_is) valid in
    let runs : Runs plan inside.state = record { valid = v; kept = kept_any inside.links c.self.invariant.0 plan inside.state c.self.invariant.1 ps c.self.invariant.2.kept } in
    (c.step_at-outcome.ensures.runs plan ps runs).valid
