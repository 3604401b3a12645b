-- A step is a move of the frame on top.
use Rattle.std.proofs.Common.{◌≡◌, List, [], ◌∷◌, Some, subst, sym}
use Rattle.std.proofs.lemmas.Option.{none-some, same_Some}
use Rattle.cm_machine_model.specs.declared.event.Event.{Event}
use Rattle.cm_machine_model.specs.declared.moves.Move.{Move}
use Rattle.cm_machine_model.specs.declared.frame.Frame.{Frame}
use Rattle.cm_machine_model.specs.Plan.{Plan}
use Rattle.cm_machine_model.specs.Stack.{top_of}
use Rattle.cm_machine_model.specs.State.{State}
use Rattle.cm_machine_model.specs.Step.{Moves, Step, StepOn}

step_on : (plan : Plan) (fs : List Frame) (s : State) (top : Frame) (m : Move) (e : Event) (new : State) → top_of fs ≡ Some top → Moves plan s top m e new → StepOn plan fs s m e new
step_on plan [] s top m e new is moves = absurd (none-some top is)
step_on plan (f ∷ fs) s top m e new is moves = subst (λ (g : Frame). Moves plan s g m e new) (sym (same_Some f top is)) moves

pub step_of : (plan : Plan) (s : State) (top : Frame) (m : Move) (e : Event) (new : State) → top_of s.stack ≡ Some top → Moves plan s top m e new → Step plan s m e new
step_of plan s top m e new is moves = step_on plan s.stack s top m e new is moves
