use Rattle.std.proofs.Common.{◌≡◌, [], ◌∷◌, refl, ap, subst, ◌∙◌}
use Rattle.std.specs.Fn.{CalledAt}
use Rattle.std.specs.Prelude.{slice_get}
use Rattle.cm_machine_model.specs.declared.event.Event.{Event}
use Rattle.cm_machine_model.specs.declared.event.Event.TheVariants as event
use Rattle.cm_machine_set.specs.Running.{RunningSet, begun}
use Rattle.cm_machine.specs.Player.{closes_between, last_of, seat_after_close}
use Rattle.cm_machine.specs.Seeing.{IsSeeingPlay, IsTold}
use Rattle.cm_machine.proofs.Drives.{whole_drive, taken_after, closed_same}
use Rattle.cm_machine.proofs.player.Player.drive_telling.Goals as goal

pub returns-clause-drive : goal.returns-clause-drive
returns-clause-drive g c =
    let is_begun : c.begin.new.self ≡ begun c.args.set.now c.args.root = c.in_ok-first.ensures.begins in
    let first : c.in_ok-first.first ≡ event.Resume c.args.root [] = c.in_ok-first.ensures.event in
    let p = c.play_telling-last.ensures in
    let from_begin = subst (λ (e : Event). IsSeeingPlay g.G.SeeingGuest.plays c.begin.new.self e c.args.seats.now.items c.args.limit p.0 c.play_telling-last.new.set c.play_telling-last.new.seats.items) first p.3 in
    let played = subst (λ (s : RunningSet). IsSeeingPlay g.G.SeeingGuest.plays s (event.Resume c.args.root []) c.args.seats.now.items c.args.limit p.0 c.play_telling-last.new.set c.play_telling-last.new.seats.items) is_begun from_begin in
    let same = closed_same c.as_slice.result.now c.args.set.now.state.closed c.as_slice-2.result.now c.play_telling-last.new.set.state.closed (c.as_slice.ensures.value ∙ c.closed_flags-before.ensures ∙ ap (λ (s : RunningSet). s.state.closed) is_begun) (c.as_slice-2.ensures.value ∙ c.closed_flags.ensures) in
    record {
      told = p.0;
      drive = whole_drive g.G.SeeingGuest.plays (begun c.args.set.now c.args.root) c.args.root c.args.limit c.args.seats.now.items p.0 c.play_telling-last.new.set c.play_telling-last.new.seats.items played (closes_between c.args.set.now.state.closed c.play_telling-last.new.set.state.closed) c.empty_closed.new.seats.items
          (λ i. c.empty_closed.ensures i ∙ ap (λ b. seat_after_close b (slice_get c.play_telling-last.new.seats.items i)) (same i)) (event.Resume c.args.root [] ∷ p.0) refl;
      heard_all = subst (λ (e : Event). IsTold (λ f e h. CalledAt g.F.FnMut f e tt h) c.args.listener (e ∷ p.0)) first p.2;
      answer = p.1 ∙ ap (λ (e : Event). last_of e p.0) first;
    }

pub returns-clause-emptied : goal.returns-clause-emptied
returns-clause-emptied g c =
    let is_begun : c.begin.new.self ≡ begun c.args.set.now c.args.root = c.in_ok-first.ensures.begins in
    let first : c.in_ok-first.first ≡ event.Resume c.args.root [] = c.in_ok-first.ensures.event in
    let p = c.play_telling-last.ensures in
    let from_begin = subst (λ (e : Event). IsSeeingPlay g.G.SeeingGuest.plays c.begin.new.self e c.args.seats.now.items c.args.limit p.0 c.play_telling-last.new.set c.play_telling-last.new.seats.items) first p.3 in
    let played = subst (λ (s : RunningSet). IsSeeingPlay g.G.SeeingGuest.plays s (event.Resume c.args.root []) c.args.seats.now.items c.args.limit p.0 c.play_telling-last.new.set c.play_telling-last.new.seats.items) is_begun from_begin in
    let same = closed_same c.as_slice.result.now c.args.set.now.state.closed c.as_slice-2.result.now c.play_telling-last.new.set.state.closed (c.as_slice.ensures.value ∙ c.closed_flags-before.ensures ∙ ap (λ (s : RunningSet). s.state.closed) is_begun) (c.as_slice-2.ensures.value ∙ c.closed_flags.ensures) in
    taken_after g.G.SeeingGuest.plays (begun c.args.set.now c.args.root) c.args.root c.args.limit c.args.seats.now.items p.0 c.play_telling-last.new.set c.play_telling-last.new.seats.items played (closes_between c.args.set.now.state.closed c.play_telling-last.new.set.state.closed) c.empty_closed.new.seats.items
    (λ i. c.empty_closed.ensures i ∙ ap (λ b. seat_after_close b (slice_get c.play_telling-last.new.seats.items i)) (same i))
