-- Whole runs of the machine, and how they begin (this project's own choice).
use Rattle.std.specs.Prelude.{◌≡◌, ℕ, Bool, true, false, List, [], ◌∷◌, Option, Some, None}
use Rattle.std.specs.Prelude.{slice_get}
use Rattle.cm_machine_model.specs.declared.frame.Purpose.TheVariants as purpose
use Rattle.cm_machine_model.specs.declared.frame.Frame.{Frame}
use Rattle.cm_machine_model.specs.declared.event.Event.{Event}
use Rattle.cm_machine_model.specs.declared.event.Misuse.{Misuse}
use Rattle.cm_machine_model.specs.declared.event.Misuse.TheVariants as misuse
use Rattle.cm_machine_model.specs.declared.moves.Move.{Move}
use Rattle.cm_machine_model.specs.Events.{is_last}
use Rattle.cm_machine_model.specs.Plan.{Plan}
use Rattle.cm_machine_model.specs.State.{State}
use Rattle.cm_machine_model.specs.Step.{Step}

-- From s these moves may lead to these events and this new state: one step after another, until the
-- moves are used up or an event is the last. Later moves are not read.
abbrev pub Run : Plan → State → List Move → List Event → State → Type 0
Run plan s [] [] new = new ≡ s
Run plan s [] (e ∷ es) new = ⊥
Run plan s (m ∷ ms) [] new = ⊥
Run plan s (m ∷ ms) (e ∷ es) new =
    (mid : State) × Step plan s m e mid
    × (is_last e ≡ false → Run plan mid ms es new)
    × (is_last e ≡ true → (es ≡ []) × (new ≡ mid))

-- the state with one frame on the stack, a root of this instance
abbrev pub after_begin : State → ℕ → State
after_begin s instance =
    record s { stack = record { instance = instance; purpose = purpose.Root } ∷ [] }

-- a root call may begin in an instance that is there and open
abbrev pub misuse_by_closed : Option Bool → Option Misuse
misuse_by_closed (Some false) = None
misuse_by_closed (Some true) = Some misuse.Closed
misuse_by_closed None = Some misuse.NoInstance

-- a root call may begin on an empty stack
abbrev pub misuse_by_stack : List Frame → Option Misuse → Option Misuse
misuse_by_stack [] otherwise = otherwise
misuse_by_stack (f ∷ fs) otherwise = Some misuse.Busy

-- why a root call may not begin now
abbrev pub misuse_of_begin : State → ℕ → Option Misuse
misuse_of_begin s instance =
    misuse_by_stack s.stack (misuse_by_closed (slice_get s.closed instance))
