-- What a trap names, and what it closes (this project's own choice).
use Rattle.std.specs.Prelude.{◌≡◌, ℕ, ◌⊎◌, ◌↔◌, ⊤, true, List, [], ◌∷◌, length, map, Contains}
use Rattle.std.specs.Prelude.{Option, Some, None, slice_get}
use Rattle.cm_types.specs.declared.core_value.CoreValue.{CoreValue}
use Rattle.cm_types.specs.Values.{Val, HandleValue}
use Rattle.cm_handles.specs.Handles.{handle_at}
use Rattle.cm_handles.specs.declared.handle.Handle.{Handle}
use Rattle.cm_handles.specs.declared.handle.HandleKind.{HandleKind}
use Rattle.cm_handles.specs.declared.handle.HandleKind.TheVariants as handle
use Rattle.cm_abi_model.specs.declared.fault.AbiFault.TheVariants as fault
use Rattle.cm_abi_model.specs.Taken.{taken_of}
use Rattle.cm_machine_model.specs.declared.event.Event.TheVariants as event
use Rattle.cm_machine_model.specs.declared.event.Trap.{Trap}
use Rattle.cm_machine_model.specs.declared.event.Trap.TheVariants as trap
use Rattle.cm_machine_model.specs.declared.frame.Place.{Place}
use Rattle.cm_machine_model.specs.declared.frame.Place.TheVariants as place
use Rattle.cm_machine_model.specs.declared.moves.Move.{Move}
use Rattle.cm_machine_model.specs.declared.moves.Move.TheVariants as move
use Rattle.cm_machine_laws.specs.Acting.{acts}
use Rattle.cm_machine_laws.specs.Causes.{Cause, IsFirst, MayFindNoMemory, order}
use Rattle.cm_machine_laws.specs.Doing.{BodyReturn, Doing, LoweredCall, body, core_func_by_index}
use Rattle.cm_machine_laws.specs.Doing.{doing, instance_of}
use Rattle.cm_machine_model.specs.History.{Occurrence, moves}
use Rattle.cm_machine_model.specs.Owning.{IsAmong, IsAt}
use Rattle.cm_abi_model.specs.HandleLeaves.{owned_in}
use Rattle.cm_machine_model.specs.Plan.{CoreFunc, Plan, lowered}
use Rattle.cm_machine_model.specs.State.{State, table_at}
use Rattle.cm_machine_model.specs.Step.{trap_of}
use Rattle.cm_machine_laws.specs.Told.{WasReturned, WasSent, met_at_call, met_at_return}
use Rattle.cm_machine_laws.specs.Told.{returned_leaves, sent_leaves}
use Rattle.cm_machine_laws.specs.HandleChanges.{unlent}

-- The trap is the first in the move's order whose cause is there; or the machine found no memory,
-- where it may want some.
abbrev pub NamesItsCause : Plan → State → List Doing → ℕ → Move → Trap → Type 0
NamesItsCause plan s ds i m t =
    IsFirst (order plan ds i m) (Cause plan s ds i m) t
    ⊎ ((t ≡ trap.EngineMemory) × MayFindNoMemory plan s ds i m)

-- What is wrong with a value, or with an answer of an allocator, is named by the trap of its own
-- name.
pub record NamesFaults : Type 0 where
  pub pointer_bounds : trap_of fault.PointerBounds ≡ trap.PointerBounds
  pub misaligned : trap_of fault.Misaligned ≡ trap.Misaligned
  pub bad_char : trap_of fault.BadChar ≡ trap.BadChar
  pub bad_case : trap_of fault.BadCase ≡ trap.BadCase
  pub bad_text : trap_of fault.BadText ≡ trap.BadText
  pub too_large : trap_of fault.TooLarge ≡ trap.TooLarge
  pub no_handle : trap_of fault.NoHandle ≡ trap.NoHandle
  pub wrong_resource : trap_of fault.WrongResource ≡ trap.WrongResource
  pub still_lent : trap_of fault.StillLent ≡ trap.StillLent
  pub not_owned : trap_of fault.NotOwned ≡ trap.NotOwned
  pub table_full : trap_of fault.TableFull ≡ trap.TableFull
  pub overlap : trap_of fault.Overlap ≡ trap.Overlap
  pub engine_memory : trap_of fault.EngineMemory ≡ trap.EngineMemory

-- what a trap leaves of a handle: an owned one, lent to nobody
abbrev pub left_by : HandleKind → Handle → Option Handle
left_by handle.Owned h = Some (unlent h)
left_by (handle.Borrowed call) h = None

-- what a trap leaves at an index of a closed instance's table
abbrev pub left_of : Option Handle → Option Handle
left_of None = None
left_of (Some h) = left_by h.kind h

-- Of the tables nothing changes but that the closed instances' handles are lent no longer, and
-- those that they had borrowed are gone; and what was taken by this move is gone, from its giver.
pub record TablesAfterTrap (old : State) (is : List ℕ) (giver : ℕ) (taken : List ℕ) (new : State)
    : Type 0 where
  pub others : (i index : ℕ) → (IsAmong is i → ⊥)
      → handle_at (table_at new.tables i) index ≡ handle_at (table_at old.tables i) index
  pub closed : (i index : ℕ) → IsAmong is i → ((i ≡ giver) × Contains taken index → ⊥)
      → handle_at (table_at new.tables i) index
      ≡ left_of (handle_at (table_at old.tables i) index)
  pub gone : (index : ℕ) → Contains taken index
      → handle_at (table_at new.tables giver) index ≡ None

-- what a trap leaves of a place
abbrev pub place_left : Place → Place
place_left (place.InTable instance index) = place.InTable instance index
place_left (place.Travelling frame) = place.Abandoned
place_left place.Abandoned = place.Abandoned
place_left place.Dropped = place.Dropped

-- Each resource is where it was, but what was on its way, or was taken by this move, is lost.
pub record PlacesAfterTrap (old : State) (lost : List HandleValue) (new : State) : Type 0 where
  pub count : length new.owners ≡ length old.owners
  pub lost_now : (h : HandleValue) → Contains lost h → IsAt new h.serial place.Abandoned
  pub others : (n : ℕ) (p : Place) → (Contains (map (λ h. h.serial) lost) n → ⊥) → IsAt old n p
      → IsAt new n (place_left p)

-- A trap empties the stack, closes exactly these instances, ends all lends, loses what was on its
-- way, and leaves memories and owned handles alone.
pub record ClosesExactly (old : State) (is : List ℕ) (giver : ℕ) (taken : List ℕ)
    (lost : List HandleValue) (new : State) : Type 0 where
  pub emptied : new.stack ≡ []
  pub no_lends : new.lends ≡ []
  pub none_on_its_way : new.passage ≡ None
  pub same_length : length new.closed ≡ length old.closed
  pub closed : (i : ℕ)
      → (slice_get new.closed i ≡ Some true)
      ↔ ((slice_get old.closed i ≡ Some true) ⊎ IsAmong is i)
  pub memories : new.memories ≡ old.memories
  pub tables : TablesAfterTrap old is giver taken new
  pub places : PlacesAfterTrap old lost new

-- where the move's lift was not done
abbrev pub ClosesAsItWas : State → List Doing → State → Type 0
ClosesAsItWas old ds new = ClosesExactly old (map instance_of ds) 0 [] [] new

-- Where the lift of a call was done, the callee is closed too, and what the call took is lost.
abbrev pub ClosesWithCall : State → List Doing → LoweredCall → State → Type 0
ClosesWithCall old ds x new =
    (v : Val) × WasSent x v
    × ClosesExactly old (x.link.instance ∷ map instance_of ds) x.caller
    (taken_of (met_at_call x v)) (owned_in (sent_leaves x v)) new

-- A trap at a body's return behind its lift: what the lift took is lost.
abbrev pub ClosesWithReturn : State → List Doing → LoweredCall → BodyReturn → State → Type 0
ClosesWithReturn old ds x r new =
    (v : Val) × WasReturned x r v
    × ClosesExactly old (map instance_of ds) x.link.instance
    (taken_of (met_at_return x r v)) (owned_in (returned_leaves x v)) new

-- A call traps after its lift where the callee's table is full, and before it at all else; where
-- there was no memory, before or after.
abbrev pub ClosesByCall : State → List Doing → LoweredCall → Trap → State → Type 0
ClosesByCall old ds x trap.TableFull new = ClosesWithCall old ds x new
ClosesByCall old ds x trap.EngineMemory new =
    ClosesAsItWas old ds new ⊎ ClosesWithCall old ds x new
ClosesByCall old ds x t new = ClosesAsItWas old ds new

-- A body's return traps after its lift where the caller's table is full or the place for the result
-- is wrong.
abbrev pub ClosesByPlace : State → List Doing → LoweredCall → BodyReturn → State → Type 0
ClosesByPlace old ds x r new =
    (((v : Val) → WasReturned x r v → ⊥) × ClosesAsItWas old ds new)
    ⊎ ClosesWithReturn old ds x r new

-- What a trap closes at a body's return, by which trap it is.
abbrev pub ClosesByReturn : State → List Doing → LoweredCall → BodyReturn → Trap → State → Type 0
ClosesByReturn old ds x r trap.TableFull new = ClosesWithReturn old ds x r new
ClosesByReturn old ds x r trap.EngineMemory new =
    ClosesAsItWas old ds new ⊎ ClosesWithReturn old ds x r new
ClosesByReturn old ds x r trap.Misaligned new = ClosesByPlace old ds x r new
ClosesByReturn old ds x r trap.PointerBounds new = ClosesByPlace old ds x r new
ClosesByReturn old ds x r t new = ClosesAsItWas old ds new

-- what a trap closes at a call
abbrev pub ClosesAtCall : State → List Doing → ℕ → Option CoreFunc → List CoreValue → Trap → State
    → Type 0
ClosesAtCall old ds i (Some (lowered l)) args t new =
    ClosesByCall old ds
    (record { caller = i; link = l; args = args; state = old; place = length ds }) t new
ClosesAtCall old ds i f args t new = ClosesAsItWas old ds new

-- what a trap closes at a return
abbrev pub ClosesAtReturn : State → List Doing → BodyReturn → Trap → State → Type 0
ClosesAtReturn old (body x asked ∷ ds) r t new = ClosesByReturn old (body x asked ∷ ds) x r t new
ClosesAtReturn old ds r t new = ClosesAsItWas old ds new

-- What a trap closes, by the move that traps.
abbrev pub ClosesWhatWentOn : Plan → State → List Doing → ℕ → Move → Trap → State → Type 0
ClosesWhatWentOn plan old ds i (move.Call func args) t new =
    ClosesAtCall old ds i (core_func_by_index plan (Some i) func) args.items t new
ClosesWhatWentOn plan old ds i (move.Return values) t new =
    ClosesAtReturn old ds (record { callee = i; values = values.items; state = old }) t new
ClosesWhatWentOn plan old ds i m t new = ClosesAsItWas old ds new

-- A trap has its named cause, and closes exactly the instances of what went on.
abbrev pub TrapHasItsCauseAndCloses : Plan → List Occurrence → State → Type 0
TrapHasItsCauseAndCloses plan [] s = ⊤
TrapHasItsCauseAndCloses plan (x ∷ h) s = (m : Move) (t : Trap) → x.action ≡ moves m
    → x.event ≡ event.Trapped t
    → (i : ℕ) × (acts h ≡ Some i) × NamesItsCause plan x.before (doing plan h) i m t
    × ClosesWhatWentOn plan x.before (doing plan h) i m t x.after

-- A move traps where a cause of its order is there: by the first one, unless there is no memory.
abbrev pub TrapsAtACause : Plan → List Occurrence → State → Type 0
TrapsAtACause plan [] s = ⊤
TrapsAtACause plan (x ∷ h) s = (m : Move) (i : ℕ) (t : Trap) → x.action ≡ moves m
    → acts h ≡ Some i
    → IsFirst (order plan (doing plan h) i m) (Cause plan x.before (doing plan h) i m) t
    → (x.event ≡ event.Trapped t)
    ⊎ ((x.event ≡ event.Trapped trap.EngineMemory)
    × MayFindNoMemory plan x.before (doing plan h) i m)
