-- What keeps each resource in one place: laws of single changes, and of lifting.
use Rattle.std.specs.Prelude.{◌≡◌, ◌≢◌, ℕ, List, [], ◌∷◌, ◌++◌, Option, Some, None, length}
use Rattle.std.specs.Prelude.{slice_set, ◌<◌, ◌≤◌, ◌+◌}
use Rattle.cm_types.specs.declared.resource.ResourceId.{ResourceId}
use Rattle.cm_types.specs.Values.{HandleValue, Val}
use Rattle.cm_handles.specs.Changes.{AddsTo}
use Rattle.cm_handles.specs.Handles.{Handles, IsSoundHandles, indices_left}
use Rattle.cm_handles.specs.declared.handle.Handle.{Handle}
use Rattle.cm_handles.specs.declared.handle.HandleKind.TheVariants as handle
use Rattle.cm_abi_model.specs.Denotes.{Denotes}
use Rattle.cm_abi_model.specs.Requests.{tuple_of}
use Rattle.cm_abi_model.specs.Taken.{Met, after_met, met, Transferable}
use Rattle.cm_abi_model.specs.Views.{View, Way}
use Rattle.cm_types.specs.declared.core_value.CoreValue.{CoreValue}
use Rattle.cm_types.specs.Types.{Fields}
use Rattle.cm_machine_model.specs.declared.event.Event.{Event}
use Rattle.cm_machine_model.specs.declared.moves.Move.{Move}
use Rattle.cm_machine_laws.specs.Taking.{AreTaken}
use Rattle.cm_machine_model.specs.Plan.{Plan}
use Rattle.cm_machine_model.specs.Valid.{IsValidState}
use Rattle.cm_machine_model.specs.declared.frame.Place.{Place}
use Rattle.cm_machine_model.specs.declared.frame.Place.TheVariants as place
use Rattle.cm_machine_model.specs.Owning.{HaveOnePlace, OnePlace, Owners, Standing, StandsIn}
use Rattle.cm_machine_model.specs.Owning.{owners_of, serials, standing}
use Rattle.cm_abi_model.specs.Receives.{HandleLeaf, leaves_in}
use Rattle.cm_abi_model.specs.Giving.{added_count, after_given, numbers_given}
use Rattle.cm_abi_model.specs.declared.receiver.Receiver.{Receiver}
use Rattle.cm_abi_model.specs.HandleLeaves.{owned_in}
use Rattle.cm_machine_model.specs.State.{State, after_trap, table_at, with_places}
use Rattle.cm_machine_model.specs.Step.{CanMake, Step, after_call, after_drop, after_new}
use Rattle.cm_machine_model.specs.Step.{owners_given}

-- one entry of the tables is this now, and all others are as they were
pub record ChangesAt (old new : Standing) (i index : ℕ) (slot : Option Handle) : Type 0 where
  pub here : new i index ≡ slot
  pub others : (j other : ℕ) → ((j ≡ i) × (other ≡ index) → ⊥) → new j other ≡ old j other

-- one resource is in this place now, and all others are where they were
pub record MovesTo (old new : Owners) (serial : ℕ) (p : Place) : Type 0 where
  pub here : new serial ≡ Some p
  pub others : (other : ℕ) → other ≢ serial → new other ≡ old other

-- A handle that owns its resource goes out of a table, and the resource is on its way.
abbrev pub TakingKeeps : Type 0
TakingKeeps =
    (at new : Standing) (owner moved : Owners) (frame : ℕ) (away : List ℕ) (i index : ℕ)
    (h : Handle)
    → HaveOnePlace at owner frame away → at i index ≡ Some h → h.kind ≡ handle.Owned
    → ChangesAt at new i index None → MovesTo owner moved h.serial (place.Travelling frame)
    → HaveOnePlace new moved frame (away ++ h.serial ∷ [])

-- The first of the resources on their way is owned at an index at which nothing stood.
abbrev pub GivingKeeps : Type 0
GivingKeeps =
    (at new : Standing) (owner moved : Owners) (frame : ℕ) (away : List ℕ) (i index : ℕ)
    (h : Handle)
    → HaveOnePlace at owner frame (h.serial ∷ away) → at i index ≡ None → h.kind ≡ handle.Owned
    → ChangesAt at new i index (Some h) → MovesTo owner moved h.serial (place.InTable i index)
    → HaveOnePlace new moved frame away

-- A handle is changed, but neither its resource nor whether it is owned.
abbrev pub ChangingKeeps : Type 0
ChangingKeeps =
    (at new : Standing) (owner : Owners) (frame : ℕ) (away : List ℕ) (i index : ℕ) (h k : Handle)
    → HaveOnePlace at owner frame away → at i index ≡ Some h → ChangesAt at new i index (Some k)
    → k.kind ≡ h.kind → k.serial ≡ h.serial → HaveOnePlace new owner frame away

-- What is lifted keeps each resource in one place: those that are owned are on their way.
abbrev pub LiftingKeeps : Type 0
LiftingKeeps =
    (tables : List Handles) (owners : List Place) (frame : ℕ) (away : List ℕ) (i : ℕ)
    (ms : List Met) (hs : List HandleValue)
    → HaveOnePlace (standing tables) (owners_of owners) frame away → i < length tables
    → AreTaken (table_at tables i) ms hs
    → HaveOnePlace
    (standing (slice_set tables i (after_met (table_at tables i) ms)))
    (owners_of (with_places (place.Travelling frame) hs owners)) frame (away ++ serials hs)

-- ---- giving

abbrev pub AddingIsFine : Type 0
AddingIsFine = (t : Handles) (h : Handle) → IsSoundHandles t → 0 < indices_left t → AddsTo t h

-- A handle that is borrowed is added, or goes.
abbrev pub BorrowingKeeps : Type 0
BorrowingKeeps =
    (at new : Standing) (owner : Owners) (frame : ℕ) (away : List ℕ) (i index call : ℕ) (h : Handle)
    → HaveOnePlace at owner frame away → at i index ≡ None → h.kind ≡ handle.Borrowed call
    → ChangesAt at new i index (Some h) → HaveOnePlace new owner frame away

-- What is given to a receiver keeps each resource in one place: those on their way are its own, and
-- nothing is on its way any more.
abbrev pub GivingAllKeeps : Type 0
GivingAllKeeps =
    (tables : List Handles) (owners : List Place) (frame : ℕ) (to : Receiver)
    (leaves : List HandleLeaf)
    → HaveOnePlace (standing tables) (owners_of owners) frame (serials (owned_in leaves))
    → to.instance < length tables → IsSoundHandles (table_at tables to.instance)
    → added_count to leaves ≤ indices_left (table_at tables to.instance)
    → HaveOnePlace
    (standing (slice_set tables to.instance (after_given to (table_at tables to.instance) leaves)))
    (owners_of (owners_given to.instance leaves
    (numbers_given to (table_at tables to.instance) leaves) owners)) frame []

-- ---- states

-- A trap, the end of a call, a new resource and one that is dropped keep each resource in one
-- place.
abbrev pub TrapKeeps : Type 0
TrapKeeps = (s : State) → OnePlace s → OnePlace (after_trap s)

abbrev pub EndKeeps : Type 0
EndKeeps = (s : State) (call : ℕ) → s.passage ≡ None → OnePlace s → OnePlace (after_call call s)

abbrev pub NewKeeps : Type 0
NewKeeps = (s : State) (i : ℕ) (r : ResourceId) (rep : ℕ) → s.passage ≡ None → OnePlace s
    → i < length s.tables → IsSoundHandles (table_at s.tables i) → CanMake s i
    → OnePlace (after_new s i r rep)

abbrev pub DropKeeps : Type 0
DropKeeps = (s : State) (i index : ℕ) (h : Handle) → s.passage ≡ None → OnePlace s
    → i < length s.tables → StandsIn s i index h → h.kind ≡ handle.Owned
    → OnePlace (after_drop s i index h)

-- ---- steps

-- The resources that a value owns are those of the handles that are taken, in order.
abbrev pub LiftTakes : Type 0
LiftTakes = (w : View) (way : Way) (types : Fields) (slots : List CoreValue) (v : Val)
    → Denotes w way types slots v → Transferable w way types slots v
    → AreTaken w.table (met w way types slots v) (owned_in (leaves_in (tuple_of types) v))

-- Each step keeps each resource in one place.
abbrev pub StepsKeep : Type 0
StepsKeep = (plan : Plan) (s : State) (m : Move) (e : Event) (new : State)
    → IsValidState plan s → Step plan s m e new → OnePlace new
