-- The frames of a running set, and the borrows of their calls.
use Rattle.std.specs.Prelude.{ℕ, List}
use Rattle.cm_machine_model.specs.declared.frame.Frame.{Frame}

-- The frames, the top first, and a number for each place of the stack, from 0 at the bottom.
pub record CountedFrames : Type 0 where
  pub frames : List Frame
  pub borrows : List ℕ
