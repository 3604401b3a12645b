-- Which handles come and go (CanonicalABI.md, "Resource State", "canon resource.new", "canon
-- resource.drop" and "canon resource.rep").
use Rattle.std.specs.Prelude.{◌≡◌, ◌≢◌, ℕ, ◌+◌, ⊤, List, [], ◌∷◌, ◌++◌, length, Contains, Option}
use Rattle.std.specs.Prelude.{Some, None}
use Rattle.std.specs.Option.{option_map}
use Rattle.cm_types.specs.declared.core_value.CoreValue.{CoreValue}
use Rattle.cm_types.specs.declared.core_value.CoreValue.TheVariants as core_value
use Rattle.cm_types.specs.declared.resource.ResourceId.{ResourceId}
use Rattle.cm_types.specs.Values.{Val}
use Rattle.cm_handles.specs.Handles.{Handles, handle_at, next_index}
use Rattle.cm_handles.specs.declared.handle.Handle.{Handle}
use Rattle.cm_handles.specs.declared.handle.HandleKind.{HandleKind}
use Rattle.cm_handles.specs.declared.handle.HandleKind.TheVariants as handle
use Rattle.cm_abi_model.specs.Numbers.{slot_at}
use Rattle.cm_abi_model.specs.Receives.{HandleLeaf}
use Rattle.cm_abi_model.specs.Taken.{taken_of}
use Rattle.cm_abi_model.specs.Giving.{added_for, with_added}
use Rattle.cm_abi_model.specs.declared.receiver.Receiver.{Receiver}
use Rattle.cm_machine_model.specs.declared.event.Event.{Event}
use Rattle.cm_machine_model.specs.declared.event.Event.TheVariants as event
use Rattle.cm_machine_model.specs.declared.frame.Place.TheVariants as place
use Rattle.cm_machine_model.specs.declared.moves.Move.{Move}
use Rattle.cm_machine_model.specs.declared.moves.Move.TheVariants as move
use Rattle.cm_machine_laws.specs.Acting.{acts}
use Rattle.cm_machine_laws.specs.Doing.{BodyReturn, Doing, LoweredCall, body, core_func_by_index}
use Rattle.cm_machine_laws.specs.Doing.{doing, handing, placing}
use Rattle.cm_machine_model.specs.History.{Occurrence, begins, moves}
use Rattle.cm_machine_model.specs.Owning.{IsAt, StandsIn}
use Rattle.cm_machine_model.specs.Plan.{CoreFunc, Plan, drops, lowered, makes, represents}
use Rattle.cm_machine_model.specs.State.{State, table_at}
use Rattle.cm_machine_laws.specs.Told.{WasReturned, WasSent, args_receiver, met_at_call}
use Rattle.cm_machine_laws.specs.Told.{met_at_return, result_receiver, returned_leaves, sent_leaves}
use Rattle.cm_machine_laws.specs.Answers.{Traps}

-- a handle but for how often it is lent
abbrev pub unlent : Handle → Handle
unlent h = record h { lends = 0 }

-- The handles of an instance are as they were, but at these indices and for how often they are
-- lent.
pub record StayBut (old new : Handles) (indices : List ℕ) : Type 0 where
  pub stay : (index : ℕ) → (Contains indices index → ⊥)
      → option_map unlent (handle_at new index) ≡ option_map unlent (handle_at old index)

-- nobody's handles change but this instance's
abbrev pub OtherHandlesStay : State → ℕ → State → Type 0
OtherHandlesStay old i new =
    (j : ℕ) → j ≢ i → StayBut (table_at old.tables j) (table_at new.tables j) []

-- nobody's handles change but this instance's, at these indices
abbrev pub HandlesStayBut : State → ℕ → List ℕ → State → Type 0
HandlesStayBut old i indices new =
    StayBut (table_at old.tables i) (table_at new.tables i) indices × OtherHandlesStay old i new

-- nothing stands at these indices
abbrev pub AreGone : Handles → List ℕ → Type 0
AreGone t indices = (index : ℕ) → Contains indices index → handle_at t index ≡ None

-- nobody's handles change
abbrev pub HandlesStay : State → State → Type 0
HandlesStay old new = (j : ℕ) → StayBut (table_at old.tables j) (table_at new.tables j) []

-- the index at which a handle is added, if one is
abbrev pub index_of_added : Option Handle → ℕ → List ℕ
index_of_added None index = []
index_of_added (Some h) index = index ∷ []

-- the indices at which a receiver's table gets handles, one after another
abbrev pub indices_given : Receiver → Handles → List HandleLeaf → List ℕ
indices_given to t [] = []
indices_given to t (leaf ∷ leaves) =
    index_of_added (added_for to leaf) (next_index t)
    ++ indices_given to (with_added t (added_for to leaf)) leaves

-- a handle that was added stands at an index
abbrev pub StandsAdded : Option Handle → ℕ → Handles → Type 0
StandsAdded None index new = ⊤
StandsAdded (Some h) index new = option_map unlent (handle_at new index) ≡ Some (unlent h)

-- what a receiver's table was given, one after another, stands where it was added
abbrev pub AreAdded : Receiver → Handles → List HandleLeaf → Handles → Type 0
AreAdded to t [] new = ⊤
AreAdded to t (leaf ∷ leaves) new =
    StandsAdded (added_for to leaf) (next_index t) new
    × AreAdded to (with_added t (added_for to leaf)) leaves new

-- A receiver's table gets the handles of a value, each at the next index, and its other handles are
-- as they were.
pub record GetsHandles (to : Receiver) (old : Handles) (leaves : List HandleLeaf) (new : Handles)
    : Type 0 where
  pub added : AreAdded to old leaves new
  pub others : StayBut old new (indices_given to old leaves)

-- the callee's table gets the handles of arguments
abbrev pub GetsArgs : State → LoweredCall → Val → State → Type 0
GetsArgs old x v new =
    GetsHandles (args_receiver x) (table_at old.tables x.link.instance) (sent_leaves x v)
    (table_at new.tables x.link.instance)

-- the caller's table gets the handles of a result
abbrev pub GetsResult : State → LoweredCall → Val → State → Type 0
GetsResult old x v new =
    GetsHandles (result_receiver x) (table_at old.tables x.caller) (returned_leaves x v)
    (table_at new.tables x.caller)

-- A call takes what it owns out of the caller's table; where a body begins, the callee's table gets
-- the value's handles.
abbrev pub HandlesAtCall : LoweredCall → Event → State → State → Type 0
HandlesAtCall x (event.Enter i f args) old new =
    (v : Val) × WasSent x v
    × StayBut (table_at old.tables x.caller) (table_at new.tables x.caller)
    (taken_of (met_at_call x v))
    × AreGone (table_at new.tables x.caller) (taken_of (met_at_call x v))
    × GetsArgs old x v new
    × ((j : ℕ) → j ≢ x.caller → j ≢ x.link.instance
    → StayBut (table_at old.tables j) (table_at new.tables j) [])
HandlesAtCall x e old new =
    (v : Val) × WasSent x v × HandlesStayBut old x.caller (taken_of (met_at_call x v)) new
    × AreGone (table_at new.tables x.caller) (taken_of (met_at_call x v))

-- Which handles a body's return changes.
abbrev pub HandlesAtReturn : LoweredCall → BodyReturn → Event → State → State → Type 0
HandlesAtReturn x r (event.Realloc i f args) old new =
    (v : Val) × WasReturned x r v
    × HandlesStayBut old x.link.instance (taken_of (met_at_return x r v)) new
    × AreGone (table_at new.tables x.link.instance) (taken_of (met_at_return x r v))
HandlesAtReturn x r e old new =
    (v : Val) × WasReturned x r v
    × StayBut (table_at old.tables x.link.instance) (table_at new.tables x.link.instance)
    (taken_of (met_at_return x r v))
    × AreGone (table_at new.tables x.link.instance) (taken_of (met_at_return x r v))
    × GetsResult old x v new
    × ((j : ℕ) → j ≢ x.caller → j ≢ x.link.instance
    → StayBut (table_at old.tables j) (table_at new.tables j) [])

-- what becomes of handles by a return, by what goes on and its event
abbrev pub HandlesByReturn : List Doing → BodyReturn → Event → State → State → Type 0
HandlesByReturn (body x asked ∷ ds) r e old new = HandlesAtReturn x r e old new
HandlesByReturn (placing x asked ∷ ds) r (event.Enter i f args) old new =
    (v : Val) × WasSent x v × GetsArgs old x v new × OtherHandlesStay old x.link.instance new
HandlesByReturn (handing x asked back more ∷ ds) r (event.Realloc i f args) old new =
    HandlesStay old new
HandlesByReturn (handing x asked back more ∷ ds) r e old new =
    (v : Val) × WasReturned x back v × GetsResult old x v new × OtherHandlesStay old x.caller new
HandlesByReturn ds r e old new = HandlesStay old new

-- A resource is made: the next serial number, never issued before, stands for it, at the next
-- index, which is answered.
pub record MakesResource (old : State) (i : ℕ) (r : ResourceId) (rep : ℕ) (e : Event) (new : State)
    : Type 0 where
  pub answer : e
      ≡ event.Resume i (core_value.I32 (next_index (table_at old.tables i)) ∷ [])
  pub stands : StandsIn new i (next_index (table_at old.tables i)) (record {
    resource = r;
    serial = length old.owners;
    lends = 0;
    rep = rep;
    kind = handle.Owned;
  })
  pub one_more : length new.owners ≡ length old.owners + 1
  pub others : HandlesStayBut old i (next_index (table_at old.tables i) ∷ []) new

-- the event of a drop: the destructor runs, if there is one
abbrev pub DtorOf : Option ℕ → ResourceId → ℕ → ℕ → Event
DtorOf None r i rep = event.Resume i []
DtorOf (Some f) r i rep = event.Dtor r.component f rep

-- what else becomes of a handle that is dropped: an owned one is gone with its resource
abbrev pub DropsAs : HandleKind → Option ℕ → ResourceId → ℕ → Handle → Event → State → Type 0
DropsAs handle.Owned d r i h e new =
    IsAt new h.serial place.Dropped × (e ≡ DtorOf d r i h.rep)
DropsAs (handle.Borrowed call) d r i h e new = e ≡ event.Resume i []

-- A handle is dropped: one of this resource that is not lent, and it is gone.
pub record DropsResource (old : State) (i : ℕ) (r : ResourceId) (d : Option ℕ) (index : ℕ)
    (e : Event) (new : State) : Type 0 where
  pub entry : Handle
  pub stood : StandsIn old i index entry
  pub of_resource : entry.resource ≡ r
  pub not_lent : entry.lends ≡ 0
  pub gone : handle_at (table_at new.tables i) index ≡ None
  pub dropped : DropsAs entry.kind d r i entry e new
  pub others : HandlesStayBut old i (index ∷ []) new

-- An instance gets a handle's representation: nothing changes.
pub record TellsResource (old : State) (i : ℕ) (r : ResourceId) (index : ℕ) (e : Event)
    (new : State) : Type 0 where
  pub entry : Handle
  pub stood : StandsIn old i index entry
  pub of_resource : entry.resource ≡ r
  pub answer : e ≡ event.Resume i (core_value.I32 entry.rep ∷ [])
  pub others : HandlesStay old new

-- what becomes of handles by a call of what a core function stands for
abbrev pub HandlesByCall : State → List Doing → ℕ → Option CoreFunc → List CoreValue → Event
    → State → Type 0
HandlesByCall old ds i (Some (lowered l)) args e new =
    HandlesAtCall
    (record { caller = i; link = l; args = args; state = old; place = length ds }) e old new
HandlesByCall old ds i (Some (makes r)) args e new = MakesResource old i r (slot_at args 0) e new
HandlesByCall old ds i (Some (drops r d)) args e new =
    DropsResource old i r d (slot_at args 0) e new
HandlesByCall old ds i (Some (represents r)) args e new =
    TellsResource old i r (slot_at args 0) e new
HandlesByCall old ds i f args e new = ⊥

-- what becomes of handles by a move
abbrev pub HandlesByMove : Plan → List Doing → State → ℕ → Move → Event → State → Type 0
HandlesByMove plan ds old i (move.Call func args) e new =
    HandlesByCall old ds i (core_func_by_index plan (Some i) func) args.items e new
HandlesByMove plan ds old i (move.Return values) e new =
    HandlesByReturn ds (record { callee = i; values = values.items; state = old }) e old new
HandlesByMove plan ds old i m e new = HandlesStay old new

-- Handles come and go by calls, returns and the resource built-ins alone, each as told.
abbrev pub HandlesChangeByTheirMoves : Plan → List Occurrence → State → Type 0
HandlesChangeByTheirMoves plan [] s = ⊤
HandlesChangeByTheirMoves plan (x ∷ h) s =
    ((i : ℕ) → x.action ≡ begins i → HandlesStay x.before x.after)
    × ((m : Move) (i : ℕ) → x.action ≡ moves m → acts h ≡ Some i → (Traps x.event → ⊥)
    → HandlesByMove plan (doing plan h) x.before i m x.event x.after)
