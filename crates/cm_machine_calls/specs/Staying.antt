-- What stays right beside the state as a call goes on.
use Rattle.std.specs.Prelude.{◌≡◌, List, ◌∷◌}
use Rattle.cm_machine_model.specs.declared.frame.Frame.{Frame}
use Rattle.cm_machine_model.specs.Plan.{Link, Plan}
use Rattle.cm_machine_model.specs.Valid.{IsStack}
use Rattle.cm_machine_parts.specs.Kept.{AreBorrowsCounted, IsEncodedAtTop}
use Rattle.cm_machine_parts.specs.States.{state_of}
use Rattle.cm_machine_parts.specs.declared.state.State.{State as CodedState}

-- What is kept beside a state stays right as the call on top, over this link, goes on.
pub record StaysKept (l : Link) (old new : CodedState) : Type 0 where
  -- The number of borrows of each call on the stack is still that of the handles in its table.
  pub counted : (frame : Frame) (below : List Frame) → old.stack.frames ≡ frame ∷ below
      → frame.instance ≡ l.instance
      → AreBorrowsCounted old.stack.borrows old.stack.frames (state_of old).tables
      → AreBorrowsCounted new.stack.borrows new.stack.frames (state_of new).tables
  -- What is on its way is encoded as the link of the call that is then on top says.
  pub encoded : (plan : Plan) → IsStack plan old.stack.frames
      → IsEncodedAtTop plan new.passing new.stack.frames
