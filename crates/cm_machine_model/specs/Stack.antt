-- The stack of frames, the top first, and who acts (CanonicalABI.md, "canon lift" and "canon
-- lower", which calls the caller's `realloc` while the results are placed).
use Rattle.std.specs.Prelude.{ℕ, List, [], ◌∷◌, Option, Some, None}
use Rattle.cm_machine_model.specs.declared.frame.Frame.{Frame}
use Rattle.cm_machine_model.specs.declared.frame.Purpose.{Purpose}
use Rattle.cm_machine_model.specs.declared.frame.Purpose.TheVariants as purpose
use Rattle.cm_machine_model.specs.declared.frame.Phase.{Phase}
use Rattle.cm_machine_model.specs.declared.frame.Phase.TheVariants as phase

-- the frame on top, if one stands
abbrev pub top_of : List Frame → Option Frame
top_of [] = None
top_of (f ∷ fs) = Some f

-- the frames below it
abbrev pub below_top : List Frame → List Frame
below_top [] = []
below_top (f ∷ fs) = fs

-- the instance that acts while a call of this instance, by this caller, is in this phase
abbrev pub actor_in : Phase → ℕ → ℕ → ℕ
actor_in phase.Arguments instance caller = instance
actor_in phase.Body instance caller = instance
actor_in phase.Results instance caller = caller
actor_in (phase.PostReturn result) instance caller = instance

-- the same while a frame of this purpose and this instance is on top
abbrev pub actor_of : Purpose → ℕ → ℕ
actor_of purpose.Root instance = instance
actor_of (purpose.Call call) instance = actor_in call.phase instance call.caller
actor_of (purpose.Destructor dropper) instance = instance

-- The instance that acts while this frame is on top: the caller while the results are placed, else
-- the frame's own.
abbrev pub actor : Frame → ℕ
actor frame = actor_of frame.purpose frame.instance
