use Rattle.std.proofs.Common.{◌≡◌, ◌<◌, false, List, ◌∷◌, length}
use Rattle.std.specs.Fn.{CalledAt}
use Rattle.std.specs.List.{FoldsTo}
use Rattle.cm_machine_model.specs.declared.event.Event.{Event}
use Rattle.cm_machine_model.specs.Events.{is_last}
use Rattle.cm_machine.specs.Player.{last_of}
use Rattle.cm_machine.proofs.Drives.{Playing}
use Rattle.cm_machine.proofs.telling.play_telling.Given as goal

-- a drive is on its way, all its events were told, and somebody acts unless the last is the last
abbrev pub invariant-loop : goal.invariant-loop
invariant-loop g l = record {
  callable : goal.F-IsAlwaysCallable g l.listener;
  playing : (told : List Event) × (l.last ≡ last_of l.fn.first told) × FoldsTo (λ f e h. CalledAt g.F.FnMut f e tt h) l.fn.listener (l.fn.first ∷ told) l.listener × Playing g.G.SeeingGuest.plays l.fn.set l.fn.first l.fn.seats.items told l.set l.seats.items l.counter;
  stands : is_last l.last ≡ false → 0 < length l.set.state.stack;
}
