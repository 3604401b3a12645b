-- What guests see (this project's own choice).
use Rattle.std.specs.Prelude.{ℕ, List}
use Rattle.cm_machine_model.specs.declared.event.Event.{Event}
use Rattle.cm_machine_model.specs.declared.moves.Move.{Move}
use Rattle.cm_machine_model.specs.Exchange.{Exchange}

-- what a guest saw, its event and its memory, and what it made of them
pub record Sight : Type 0 where
  pub seen : Event
  pub memory : List ℕ
  pub made : Move

-- what is left of it for a guest that does not look at its memory
abbrev pub exchange_of : Sight → Exchange
exchange_of x = record { seen = x.seen; made = x.made }
