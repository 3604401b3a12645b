use Rattle.std.proofs.Common.{◌≡◌, [], ◌∷◌, refl, sym, ap, subst, ◌∙◌}
use Rattle.std.specs.Prelude.{slice_get}
use Rattle.cm_machine_model.specs.declared.event.Event.TheVariants as event
use Rattle.cm_machine_set.specs.Running.{RunningSet, begun}
use Rattle.cm_machine.specs.Player.{closes_between, seat_after_close}
use Rattle.cm_machine.specs.Seeing.{IsSeeingPlay, IsSeeingHalt}
use Rattle.cm_machine.proofs.Drives.{halts_first, whole_drive, taken_after, closed_same}
use Rattle.cm_machine.proofs.player.Player.drive_seeing.Goals as goal

pub returns-clause-drive : goal.returns-clause-drive
returns-clause-drive g c =
    let is_begun : c.begin.new.self ≡ begun c.args.set.now c.args.root = c.in_ok-first.ensures.begins in
    let first : c.push.new.self.items ≡ event.Resume c.args.root [] ∷ [] = let e = c.in_ok-first.ensures.event in let f = c.in-Ok.ensures.items in let n = c.new-events.ensures.items in cc in
    let p = c.in_ok-play_on.ensures.ok (event.Resume c.args.root []) first in
    let played = subst (λ (s : RunningSet). IsSeeingPlay g.G.SeeingGuest.plays s (event.Resume c.args.root []) c.args.seats.now.items c.args.limit p.0 c.play_on.new.set c.play_on.new.seats.items) is_begun p.2 in
    let same = closed_same c.as_slice.result.now c.args.set.now.state.closed c.as_slice-2.result.now c.play_on.new.set.state.closed (c.as_slice.ensures.value ∙ c.closed_flags-before.ensures ∙ ap (λ (s : RunningSet). s.state.closed) is_begun) (c.as_slice-2.ensures.value ∙ c.closed_flags.ensures) in
    whole_drive g.G.SeeingGuest.plays (begun c.args.set.now c.args.root) c.args.root c.args.limit c.args.seats.now.items p.0 c.play_on.new.set c.play_on.new.seats.items played (closes_between c.args.set.now.state.closed c.play_on.new.set.state.closed) c.empty_closed.new.seats.items
    (λ i. c.empty_closed.ensures i ∙ ap (λ b. seat_after_close b (slice_get c.play_on.new.seats.items i)) (same i)) c.play_on.new.events.items p.1

pub returns-clause-emptied : goal.returns-clause-emptied
returns-clause-emptied g c =
    let is_begun : c.begin.new.self ≡ begun c.args.set.now c.args.root = c.in_ok-first.ensures.begins in
    let first : c.push.new.self.items ≡ event.Resume c.args.root [] ∷ [] = let e = c.in_ok-first.ensures.event in let f = c.in-Ok.ensures.items in let n = c.new-events.ensures.items in cc in
    let p = c.in_ok-play_on.ensures.ok (event.Resume c.args.root []) first in
    let played = subst (λ (s : RunningSet). IsSeeingPlay g.G.SeeingGuest.plays s (event.Resume c.args.root []) c.args.seats.now.items c.args.limit p.0 c.play_on.new.set c.play_on.new.seats.items) is_begun p.2 in
    let same = closed_same c.as_slice.result.now c.args.set.now.state.closed c.as_slice-2.result.now c.play_on.new.set.state.closed (c.as_slice.ensures.value ∙ c.closed_flags-before.ensures ∙ ap (λ (s : RunningSet). s.state.closed) is_begun) (c.as_slice-2.ensures.value ∙ c.closed_flags.ensures) in
    taken_after g.G.SeeingGuest.plays (begun c.args.set.now c.args.root) c.args.root c.args.limit c.args.seats.now.items p.0 c.play_on.new.set c.play_on.new.seats.items played (closes_between c.args.set.now.state.closed c.play_on.new.set.state.closed) c.empty_closed.new.seats.items
    (λ i. c.empty_closed.ensures i ∙ ap (λ b. seat_after_close b (slice_get c.play_on.new.seats.items i)) (same i))

pub returns-in_default-clause-halt : goal.returns-in_default-clause-halt
returns-in_default-clause-halt g c memory =
    subst (λ (s : RunningSet). IsSeeingHalt g.G.SeeingGuest.plays (begun c.args.set.now c.args.root) (event.Resume c.args.root []) c.args.seats.now.items c.args.limit s c.args.seats.now.items) (sym c.in_ok-first.ensures.begins)
    (halts_first g.G.SeeingGuest.plays (begun c.args.set.now c.args.root) (event.Resume c.args.root []) c.args.seats.now.items c.args.limit refl)
