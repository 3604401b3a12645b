-- Rows, where a function of a row comes to an end.
use Rattle.std.proofs.Common.{◌≡◌, ap}
use Rattle.cm_machine_model.specs.declared.event.Event.TheVariants as event
use Rattle.cm_machine_model.specs.declared.event.Trap.{Trap}
use Rattle.cm_machine_model.specs.State.{State, after_trap}
use Rattle.cm_machine_model.specs.Step.{Traps}

-- a trap from a state that is left as it was
pub traps_here : (s new : State) (t u : Trap) → new ≡ s → t ≡ u → Traps s u (event.Trapped t) (after_trap new)
traps_here s new t u same is = (ap (λ (x : Trap). event.Trapped x) is, ap after_trap same)
