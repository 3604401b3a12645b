use Rattle.std.proofs.Common.{◌≡◌, ℕ, ◌<◌, Bool, false, List, ◌++◌, length}
use Rattle.std.specs.Prelude.{slice_get}
use Rattle.cm_machine_model.specs.declared.event.Event.{Event}
use Rattle.cm_machine_model.specs.Events.{is_last}
use Rattle.cm_machine_set.specs.Running.{RunningSet}
use Rattle.cm_machine.specs.Player.{StaysTaken, last_of}
use Rattle.cm_machine.specs.Seeing.{SeatSees, SeeingTurn, sights_of}
use Rattle.cm_machine.specs.Watching.{WatchedTurns}
use Rattle.cm_machine.proofs.Watched.{Watching}
use Rattle.cm_machine.proofs.watching.play_watched.Given as goal

-- a drive is on its way, a watcher saw all of it, and somebody acts unless the last event is the last
abbrev pub invariant-loop : goal.invariant-loop
invariant-loop g l = record {
  watching : Watching g.G.SeeingGuest.plays g.W.Watcher.before g.W.Watcher.after l.fn.set l.fn.first l.fn.seats.items l.fn.watcher l.last l.set l.seats.items l.watcher l.goes_on l.counter;
  stands : is_last l.last ≡ false → 0 < length l.set.state.stack;
}
