-- Whole histories of a set: what was done, and what the machine answered (this project's own
-- choice).
use Rattle.std.specs.Prelude.{◌≡◌, ℕ, ⊤, Bool, true, false, List, [], ◌∷◌, None, length}
use Rattle.cm_abi_model.specs.Bytes.{AreBytes}
use Rattle.cm_machine_model.specs.declared.event.Event.{Event}
use Rattle.cm_machine_model.specs.declared.event.Event.TheVariants as event
use Rattle.cm_machine_model.specs.declared.moves.Move.{Move}
use Rattle.cm_machine_model.specs.declared.moves.Move.TheVariants as move
use Rattle.cm_machine_model.specs.Plan.{Plan}
use Rattle.cm_machine_model.specs.Plans.{IsPlan}
use Rattle.cm_machine_model.specs.State.{State, are_page_counts, fresh_state}
use Rattle.cm_machine_model.specs.Step.{Step}
use Rattle.cm_machine_model.specs.Events.{is_last}
use Rattle.cm_machine_model.specs.Run.{after_begin, misuse_of_begin}

-- a host begins a root call of an instance, or the acting guest makes a move
pub data Action : Type 0 where
  begins : ℕ → Action
  moves : Move → Action

-- One thing that happened: the state before, what was done, what the machine answered, the state
-- after.
pub record Occurrence : Type 0 where
  pub before : State
  pub action : Action
  pub event : Event
  pub after : State

-- A move writes bytes: numbers below 256.
abbrev pub WritesBytes : Move → Type 0
WritesBytes (move.Write at bytes) = AreBytes bytes.items
WritesBytes (move.Grow pages) = ⊤
WritesBytes (move.Call func args) = ⊤
WritesBytes (move.Return values) = ⊤
WritesBytes move.Unreachable = ⊤

-- An accepted begin, or a step of the machine.
abbrev pub Happens : Plan → State → Action → Event → State → Type 0
Happens plan s (begins i) e new =
    (misuse_of_begin s i ≡ None) × (e ≡ event.Resume i []) × (new ≡ after_begin s i)
Happens plan s (moves m) e new = WritesBytes m × Step plan s m e new

-- What happened, the latest first, from a fresh set on to the state s.
abbrev pub IsHistory : Plan → State → List Occurrence → State → Type 0
IsHistory plan start [] s = s ≡ start
IsHistory plan start (x ∷ h) s =
    IsHistory plan start h x.before × Happens plan x.before x.action x.event x.after × (s ≡ x.after)

-- What happened to a set with these core functions and numbers of pages, from `Set::new` on to the
-- state s.
pub record IsHistoryOf (plan : Plan) (pages : List ℕ) (h : List Occurrence) (s : State)
    : Type 0 where
  pub linked : IsPlan plan
  pub pages_fit : are_page_counts (length plan) pages ≡ true
  pub history : IsHistory plan (fresh_state (length plan) pages) h s

-- What this action led to goes on from each history that led to the state before it.
abbrev pub GoesOnFrom : State → Action → Event → State → Type 0
GoesOnFrom old a e new = (plan : Plan) (pages : List ℕ) (h : List Occurrence)
    → IsHistoryOf plan pages h old
    → IsHistoryOf plan pages
    (record { before = old; action = a; event = e; after = new } ∷ h) new

-- The longer history has these moves and events after the other, where the event before them is a
-- last one or not: the moves are used up, or the last of the events is the first one that is a last
-- one.
abbrev pub GoesOnBy : Plan → State → List Occurrence → Bool → List Move → List Event
    → List Occurrence → State → Type 0
GoesOnBy plan start h last [] [] longer new = (longer ≡ h) × IsHistory plan start h new
GoesOnBy plan start h last (m ∷ ms) [] longer new =
    (last ≡ true) × (longer ≡ h) × IsHistory plan start h new
GoesOnBy plan start h last [] (e ∷ es) longer new = ⊥
GoesOnBy plan start h last (m ∷ ms) (e ∷ es) longer new =
    (last ≡ false)
    × ((x : Occurrence) × (x.action ≡ moves m) × (x.event ≡ e)
    × GoesOnBy plan start (x ∷ h) (is_last e) ms es longer new)

-- The events of a run extend each history that led to its state.
abbrev pub RunsOn : Plan → State → List Occurrence → List Move → List Event → State → Type 0
RunsOn plan start h ms es new =
    (longer : List Occurrence) × GoesOnBy plan start h false ms es longer new
