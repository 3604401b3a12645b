-- What keeps lends counted and borrows backed.
use Rattle.cm_machine_model.specs.declared.event.Event.{Event}
use Rattle.cm_machine_model.specs.declared.moves.Move.{Move}
use Rattle.cm_machine_model.specs.Owning.{AreCounted, NoneDangles}
use Rattle.cm_machine_model.specs.Plan.{Plan}
use Rattle.cm_machine_model.specs.State.{State}
use Rattle.cm_machine_model.specs.Step.{Step}
use Rattle.cm_machine_model.specs.Valid.{AreBorrowed, AreLentOut, AreToCalls, IsValidState}

-- Each handle is lent as often as it is among the lends, the lends are to calls that stand, and
-- what is borrowed, or is on its way to be, is lent.
pub record AreLent (s : State) : Type 0 where
  pub counted : AreCounted s
  pub to_calls : AreToCalls s
  pub borrowed : AreBorrowed s
  pub lent_out : AreLentOut s

-- Each step keeps that.
abbrev pub StepsLend : Type 0
StepsLend = (plan : Plan) (s : State) (m : Move) (e : Event) (new : State)
    → IsValidState plan s → Step plan s m e new → AreLent new

-- No borrow dangles in a valid state.
abbrev pub NothingDangles : Type 0
NothingDangles = (plan : Plan) (s : State) → IsValidState plan s → NoneDangles s
