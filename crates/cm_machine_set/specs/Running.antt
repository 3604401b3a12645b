-- What a contract sees of a set that runs.
use Rattle.std.specs.Prelude.{◌≡◌, ℕ, Bool, true, false, List, [], ◌∷◌}
use Rattle.cm_abi_model.specs.declared.leaf.HandleLeaf.{HandleLeaf}
use Rattle.cm_abi_model.specs.declared.leaf.HandleLeaf.TheVariants as leaf
use Rattle.cm_abi_model.specs.Scanned.{Scanned}
use Rattle.cm_machine_model.specs.declared.event.Event.{Event}
use Rattle.cm_machine_model.specs.declared.moves.Move.{Move}
use Rattle.cm_machine_model.specs.History.{Action, IsHistoryOf, Occurrence, moves}
use Rattle.cm_machine_model.specs.Plan.{Plan}
use Rattle.cm_machine_model.specs.Run.{after_begin}
use Rattle.cm_machine_model.specs.State.{State}
use Rattle.cm_machine_model.specs.Step.{Step}
use Rattle.cm_machine_model.specs.Valid.{IsValidState}
use Rattle.cm_machine_links.specs.declared.links.Links.{Links}
use Rattle.cm_machine_links.specs.Planned.{ArePlanned}
use Rattle.cm_machine_links.specs.Planning.{IsPlanOf}
use Rattle.cm_match_model.specs.Imports.{LinkSet}

-- What each core function stands for, the state, and what is kept of the value on its way.
pub record RunningSet : Type 0 where
  pub links : Links
  pub state : State
  pub kept : Scanned

-- A set that nothing has happened to: it stands for the plan of what was linked, with these numbers
-- of pages.
pub record IsNew (linked : LinkSet) (pages : List ℕ) (s : RunningSet) : Type 0 where
  pub plan : Plan
  pub of_linked : IsPlanOf linked plan
  pub planned : ArePlanned plan s.links
  pub history : IsHistoryOf plan pages [] s.state

-- What this action led to goes on from each history of what the links stand for that led to the
-- state before it.
abbrev pub GoesOnFrom : RunningSet → Action → Event → RunningSet → Type 0
GoesOnFrom old a e new = (plan : Plan) (pages : List ℕ) (h : List Occurrence)
    → ArePlanned plan old.links → IsHistoryOf plan pages h old.state
    → IsHistoryOf plan pages
    (record { before = old.state; action = a; event = e; after = new.state } ∷ h) new.state

-- the set with one frame on its stack, a root of this instance
abbrev pub begun : RunningSet → ℕ → RunningSet
begun s instance = record s { state = after_begin s.state instance }

-- By this move the set may come to this event and be this set: a step of each plan that its links
-- stand for, which keeps the state valid; it goes on from each history; and the links stay.
pub record SetSteps (old : RunningSet) (m : Move) (e : Event) (new : RunningSet) : Type 0 where
  pub step : (plan : Plan) → ArePlanned plan old.links → IsValidState plan old.state
      → Step plan old.state m e new.state
  pub valid : (plan : Plan) → ArePlanned plan old.links → IsValidState plan old.state
      → IsValidState plan new.state
  pub history : GoesOnFrom old (moves m) e new
  pub planned : new.links ≡ old.links

-- whether a handle of a value is to be owned
abbrev pub is_owned : HandleLeaf → Bool
is_owned (leaf.Owned h) = true
is_owned (leaf.Borrowed h) = false
