use Rattle.std.proofs.Common.{◌≡◌, [], ap, subst, ◌∙◌}
use Rattle.std.specs.Prelude.{slice_get}
use Rattle.cm_machine_model.specs.declared.event.Event.{Event}
use Rattle.cm_machine_model.specs.declared.event.Event.TheVariants as event
use Rattle.cm_machine_set.specs.Running.{RunningSet, begun}
use Rattle.cm_machine.specs.Player.{closes_between, seat_after_close}
use Rattle.cm_machine.specs.Watching.{IsWatchedPlay}
use Rattle.cm_machine.proofs.Drives.{closed_same}
use Rattle.cm_machine.proofs.Watched.{taken_watched, whole_watched}
use Rattle.cm_machine.proofs.player.Player.drive_watched.Goals as goal

pub returns-clause-drive : goal.returns-clause-drive
returns-clause-drive g c =
    let is_begun : c.begin.new.self ≡ begun c.args.set.now c.args.root = c.in_ok-first.ensures.begins in
    let first : c.in_ok-first.first ≡ event.Resume c.args.root [] = c.in_ok-first.ensures.event in
    let w = c.play_watched-last.new.watcher in
    let from_begin = subst (λ (e : Event). IsWatchedPlay g.G.SeeingGuest.plays g.W.Watcher.before g.W.Watcher.after c.begin.new.self e c.args.seats.now.items c.args.watcher.now c.args.limit c.play_watched-last.result c.play_watched-last.new.set c.play_watched-last.new.seats.items w) first c.play_watched-last.ensures in
    let played = subst (λ (s : RunningSet). IsWatchedPlay g.G.SeeingGuest.plays g.W.Watcher.before g.W.Watcher.after s (event.Resume c.args.root []) c.args.seats.now.items c.args.watcher.now c.args.limit c.play_watched-last.result c.play_watched-last.new.set c.play_watched-last.new.seats.items w) is_begun from_begin in
    let same = closed_same c.as_slice.result.now c.args.set.now.state.closed c.as_slice-2.result.now c.play_watched-last.new.set.state.closed (c.as_slice.ensures.value ∙ c.closed_flags-before.ensures ∙ ap (λ (s : RunningSet). s.state.closed) is_begun) (c.as_slice-2.ensures.value ∙ c.closed_flags.ensures) in
    whole_watched g.G.SeeingGuest.plays g.W.Watcher.before g.W.Watcher.after (begun c.args.set.now c.args.root) c.args.root c.args.limit c.args.seats.now.items c.args.watcher.now c.play_watched-last.result c.play_watched-last.new.set c.play_watched-last.new.seats.items w played (closes_between c.args.set.now.state.closed c.play_watched-last.new.set.state.closed) c.empty_closed.new.seats.items
    (λ i. c.empty_closed.ensures i ∙ ap (λ b. seat_after_close b (slice_get c.play_watched-last.new.seats.items i)) (same i))

pub returns-clause-emptied : goal.returns-clause-emptied
returns-clause-emptied g c =
    let is_begun : c.begin.new.self ≡ begun c.args.set.now c.args.root = c.in_ok-first.ensures.begins in
    let first : c.in_ok-first.first ≡ event.Resume c.args.root [] = c.in_ok-first.ensures.event in
    let w = c.play_watched-last.new.watcher in
    let from_begin = subst (λ (e : Event). IsWatchedPlay g.G.SeeingGuest.plays g.W.Watcher.before g.W.Watcher.after c.begin.new.self e c.args.seats.now.items c.args.watcher.now c.args.limit c.play_watched-last.result c.play_watched-last.new.set c.play_watched-last.new.seats.items w) first c.play_watched-last.ensures in
    let played = subst (λ (s : RunningSet). IsWatchedPlay g.G.SeeingGuest.plays g.W.Watcher.before g.W.Watcher.after s (event.Resume c.args.root []) c.args.seats.now.items c.args.watcher.now c.args.limit c.play_watched-last.result c.play_watched-last.new.set c.play_watched-last.new.seats.items w) is_begun from_begin in
    let same = closed_same c.as_slice.result.now c.args.set.now.state.closed c.as_slice-2.result.now c.play_watched-last.new.set.state.closed (c.as_slice.ensures.value ∙ c.closed_flags-before.ensures ∙ ap (λ (s : RunningSet). s.state.closed) is_begun) (c.as_slice-2.ensures.value ∙ c.closed_flags.ensures) in
    taken_watched g.G.SeeingGuest.plays g.W.Watcher.before g.W.Watcher.after (begun c.args.set.now c.args.root) c.args.root c.args.limit c.args.seats.now.items c.args.watcher.now c.play_watched-last.result c.play_watched-last.new.set c.play_watched-last.new.seats.items w played (closes_between c.args.set.now.state.closed c.play_watched-last.new.set.state.closed) c.empty_closed.new.seats.items
    (λ i. c.empty_closed.ensures i ∙ ap (λ b. seat_after_close b (slice_get c.play_watched-last.new.seats.items i)) (same i))
