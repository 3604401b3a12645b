use Rattle.std.proofs.Common.{◌≡◌, ◌<◌, false, List, [], ◌∷◌, length}
use Rattle.cm_machine_model.specs.declared.event.Event.{Event}
use Rattle.cm_machine_model.specs.Events.{is_last}
use Rattle.cm_machine.specs.Player.{last_of}
use Rattle.cm_machine.proofs.Drives.{Playing}
use Rattle.cm_machine.proofs.turns.play_on.Given as goal

-- a drive is on its way, and somebody acts unless its last event is the last
abbrev pub invariant-loop : goal.invariant-loop
invariant-loop g l = record {
  playing : (first : Event) → l.fn.events.items ≡ first ∷ [] → (told : List Event) × (l.events.items ≡ first ∷ told) × Playing g.G.SeeingGuest.plays l.fn.set first l.fn.seats.items told l.set l.seats.items l.counter;
  stands : (first : Event) (told : List Event) → l.events.items ≡ first ∷ told → is_last (last_of first told) ≡ false → 0 < length l.set.state.stack;
}
