-- What a guest saw, and what it made of it.
use Rattle.cm_machine_model.specs.declared.event.Event.{Event}
use Rattle.cm_machine_model.specs.declared.moves.Move.{Move}

pub record Exchange : Type 0 where
  pub seen : Event
  pub made : Move
