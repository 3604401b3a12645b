-- The causes of traps, in their own words: over the state and over what goes on, told by the
-- events. No check of the machine, no frame and no passage is read here (CanonicalABI.md, "canon
-- lift", "canon lower" and the resource built-ins; the order of the traps, their numbers and the
-- limits are this project's own choice).
use Rattle.std.specs.Prelude.{◌≡◌, ◌≢◌, ℕ, ◌+◌, ◌*◌, ◌<◌, ◌≤◌, ◌⊎◌, ⊤, true, List, [], ◌∷◌, ◌++◌}
use Rattle.std.specs.Prelude.{length, map, if◌then◌else◌, Option, Some, None, slice_get}
use Rattle.std.specs.List.{AllByRecursion}
use Rattle.cm_types.specs.CoreValues.{kind_of}
use Rattle.cm_types.specs.Types.{Fields}
use Rattle.cm_types.specs.declared.core_value.CoreKind.{CoreKind}
use Rattle.cm_types.specs.declared.core_value.CoreKind.TheVariants as kind
use Rattle.cm_types.specs.declared.core_value.CoreValue.{CoreValue}
use Rattle.cm_types.specs.declared.resource.ResourceId.{ResourceId}
use Rattle.cm_types.specs.Values.{Val}
use Rattle.cm_handles.specs.Handles.{Handles, handle_at, indices_left}
use Rattle.cm_handles.specs.declared.handle.Handle.{Handle}
use Rattle.cm_handles.specs.declared.handle.HandleKind.TheVariants as handle
use Rattle.cm_abi_model.specs.declared.fault.AbiFault.{AbiFault}
use Rattle.cm_abi_model.specs.declared.fault.AbiFault.TheVariants as fault
use Rattle.cm_abi_model.specs.Numbers.{slot_at}
use Rattle.cm_abi_model.specs.Denotes.{Denotes}
use Rattle.cm_abi_model.specs.Requests.{is_spilled, parts_of, tuple_of}
use Rattle.cm_abi_model.specs.Receives.{call_kinds}
use Rattle.cm_abi_model.specs.Texts.{IsAligned}
use Rattle.cm_layout.specs.Sizes.{align_of, size_of}
use Rattle.cm_abi_model.specs.Views.{View, Way, params, results}
use Rattle.cm_abi_model.specs.Giving.{added_count}
use Rattle.cm_abi_model.specs.Answering.{regions_of}
use Rattle.cm_abi_model.specs.Overlap.{AreDisjoint}
use Rattle.cm_machine_model.specs.declared.event.Trap.{Trap}
use Rattle.cm_machine_model.specs.declared.event.Trap.TheVariants as trap
use Rattle.cm_machine_model.specs.declared.moves.Move.{Move}
use Rattle.cm_machine_model.specs.declared.moves.Move.TheVariants as move
use Rattle.cm_machine_model.specs.declared.limits.TheConstants.{MAX_FRAMES, MAX_PAGES, PAGE_SIZE}
use Rattle.cm_machine_model.specs.Memories.{memory_at}
use Rattle.cm_machine_model.specs.Plan.{Plan, CoreFunc, Link, guest, lowered, makes, drops}
use Rattle.cm_machine_model.specs.Plan.{represents, core_func_at}
use Rattle.cm_machine_model.specs.Plan.{types_of}
use Rattle.cm_machine_model.specs.State.{State, table_at}
use Rattle.cm_machine_model.specs.Step.{trap_of}
use Rattle.cm_abi_model.specs.LiftStops.{BorrowStops, LiftStops, HandleStands}
use Rattle.cm_machine_laws.specs.Doing.{Asked, BodyReturn, Doing, LoweredCall, root, placing, body}
use Rattle.cm_machine_laws.specs.Doing.{handing, tidying, destroys}
use Rattle.cm_machine_laws.specs.Told.{WasReturned, WasSent, answers_back, answers_in}
use Rattle.cm_machine_laws.specs.Told.{args_kinds, args_receiver, is_by_memory, result_place_of}
use Rattle.cm_machine_laws.specs.Told.{result_receiver, returned_leaves, returned_requests}
use Rattle.cm_machine_laws.specs.Told.{returner_view, sender_view, sent_leaves, sent_requests}
use Rattle.cm_machine_laws.specs.Told.{sent_slots}

-- An instance may call out unless arguments or a result are being placed, or it tidies up.
abbrev pub MayCall : List Doing → Type 0
MayCall [] = ⊤
MayCall (root i ∷ ds) = ⊤
MayCall (placing x asked ∷ ds) = ⊥
MayCall (body x asked ∷ ds) = ⊤
MayCall (handing x asked back more ∷ ds) = ⊥
MayCall (tidying x asked back more ∷ ds) = ⊥
MayCall (destroys dropper i ∷ ds) = ⊤

-- a trap has closed the instance
abbrev pub IsClosed : State → ℕ → Type 0
IsClosed s i = slice_get s.closed i ≡ Some true

-- core values are of these kinds, one for one
abbrev pub HaveKinds : List CoreKind → List CoreValue → Type 0
HaveKinds kinds values = map kind_of values ≡ kinds

-- the kinds of what a caller passes: the arguments, and where the result goes by memory, its place
abbrev pub passed_kinds : Link → List CoreKind
passed_kinds l =
    args_kinds l ++ (if is_spilled results (types_of l results) then kind.I32 ∷ [] else [])

-- the kinds of what a body returns
abbrev pub result_kinds : Link → List CoreKind
result_kinds l = call_kinds results (types_of l results)

-- the kinds of one number of 32 bits
abbrev pub one_number : List CoreKind
one_number = kind.I32 ∷ []

-- To look at what core values denote takes memory, unless it is a value with neither parts nor
-- handles.
abbrev pub TakesMemory : View → Way → Fields → List CoreValue → Type 0
TakesMemory w way types slots =
    (v : Val) → Denotes w way types slots v → parts_of way types v ≡ 0 → ⊥

-- no handle of a table is borrowed for this call
abbrev pub NoneIsBorrowed : Handles → ℕ → Type 0
NoneIsBorrowed t call =
    (index : ℕ) (h : Handle) → handle_at t index ≡ Some h → h.kind ≡ handle.Borrowed call → ⊥

-- A resource can be made: fewer than 2^64 - 1 were, and the table has an index for its handle.
abbrev pub IsRoomForOne : State → ℕ → Type 0
IsRoomForOne s i =
    (length s.owners < 18_446_744_073_709_551_615) × (0 < indices_left (table_at s.tables i))

-- ---- calls

-- a call that would be made of a lowered function now
abbrev pub call_now : State → List Doing → ℕ → Link → List CoreValue → LoweredCall
call_now s ds i l args =
    record { caller = i; link = l; args = args; state = s; place = length ds }

-- the arguments need no room, and the callee's table has too few indices for their handles
pub record HasNoIndices (x : LoweredCall) : Type 0 where
  pub v : Val
  pub sent : WasSent x v
  pub asks_nothing : sent_requests x v ≡ []
  pub too_few : indices_left (table_at x.state.tables x.link.instance)
      < added_count (args_receiver x) (sent_leaves x v)

-- the causes at a call of a lowered function
abbrev pub LowerCause : State → List Doing → LoweredCall → Trap → Type 0
LowerCause s ds x trap.CoreShape = HaveKinds (passed_kinds x.link) x.args → ⊥
LowerCause s ds x trap.MayNotLeave = MayCall ds → ⊥
LowerCause s ds x trap.CalleeClosed = IsClosed s x.link.instance
LowerCause s ds x trap.StackFull = MAX_FRAMES ≤ length ds
LowerCause s ds x trap.TableFull = HasNoIndices x
LowerCause s ds x trap.EngineMemory =
    TakesMemory (sender_view x) params (types_of x.link params) (sent_slots x)
LowerCause s ds x t =
    (f : AbiFault) × (trap_of f ≡ t)
    × LiftStops (sender_view x) params (types_of x.link params) (sent_slots x) f

-- the causes at a call that makes a resource
abbrev pub MakeCause : State → List Doing → ℕ → List CoreValue → Trap → Type 0
MakeCause s ds i args trap.CoreShape = HaveKinds one_number args → ⊥
MakeCause s ds i args trap.MayNotLeave = MayCall ds → ⊥
MakeCause s ds i args trap.TableFull = IsRoomForOne s i → ⊥
MakeCause s ds i args trap.EngineMemory = ⊤
MakeCause s ds i args t = ⊥

-- an owned handle that has a destructor stands at an index
pub record IsDestroyed (t : Handles) (index : ℕ) (d : Option ℕ) : Type 0 where
  pub entry : Handle
  pub stands : HandleStands t index entry
  pub owned : entry.kind ≡ handle.Owned
  pub func : ℕ
  pub destructor : d ≡ Some func

-- a handle of this resource stands there that is lent
pub record IsLent (t : Handles) (r : ResourceId) (index : ℕ) : Type 0 where
  pub entry : Handle
  pub stands : HandleStands t index entry
  pub of_resource : entry.resource ≡ r
  pub lent : 0 < entry.lends

-- the causes where a handle is looked up
abbrev pub HandleCause : Handles → ResourceId → ℕ → Trap → Type 0
HandleCause t r index trap.NoHandle = BorrowStops t r index fault.NoHandle
HandleCause t r index trap.WrongResource = BorrowStops t r index fault.WrongResource
HandleCause t r index u = ⊥

-- the causes at a call that drops a handle
abbrev pub DropCause : State → List Doing → ℕ → ResourceId → Option ℕ → List CoreValue → Trap
    → Type 0
DropCause s ds i r d args trap.CoreShape = HaveKinds one_number args → ⊥
DropCause s ds i r d args trap.MayNotLeave = MayCall ds → ⊥
DropCause s ds i r d args trap.StillLent = IsLent (table_at s.tables i) r (slot_at args 0)
DropCause s ds i r d args trap.CalleeClosed =
    IsDestroyed (table_at s.tables i) (slot_at args 0) d × IsClosed s r.component
DropCause s ds i r d args trap.StackFull =
    IsDestroyed (table_at s.tables i) (slot_at args 0) d × (MAX_FRAMES ≤ length ds)
DropCause s ds i r d args t = HandleCause (table_at s.tables i) r (slot_at args 0) t

-- the causes at a call that tells a representation
abbrev pub TellCause : State → ℕ → ResourceId → List CoreValue → Trap → Type 0
TellCause s i r args trap.CoreShape = HaveKinds one_number args → ⊥
TellCause s i r args t = HandleCause (table_at s.tables i) r (slot_at args 0) t

-- no canonical definition made the function
abbrev pub UnknownCause : Trap → Type 0
UnknownCause trap.UnknownFunction = ⊤
UnknownCause t = ⊥

-- the causes at a call of what a core function stands for
abbrev pub CallCause : State → List Doing → ℕ → Option CoreFunc → List CoreValue → Trap → Type 0
CallCause s ds i None args t = UnknownCause t
CallCause s ds i (Some guest) args t = UnknownCause t
CallCause s ds i (Some (lowered l)) args t = LowerCause s ds (call_now s ds i l args) t
CallCause s ds i (Some (makes r)) args t = MakeCause s ds i args t
CallCause s ds i (Some (drops r d)) args t = DropCause s ds i r d args t
CallCause s ds i (Some (represents r)) args t = TellCause s i r args t

-- ---- returns

-- what an allocator was asked for last: the alignment
abbrev pub align_asked : List Asked → ℕ
align_asked [] = 1
align_asked (a ∷ earlier) = slot_at a.request 2

-- and the size
abbrev pub size_asked : List Asked → ℕ
size_asked [] = 0
size_asked (a ∷ earlier) = slot_at a.request 3

-- an answer is not aligned; one that is passes the end of the memory
abbrev pub AnswerCause : List ℕ → List Asked → ℕ → Trap → Type 0
AnswerCause memory asked at trap.Misaligned = IsAligned (align_asked asked) at → ⊥
AnswerCause memory asked at trap.PointerBounds =
    IsAligned (align_asked asked) at × (length memory < at + size_asked asked)
AnswerCause memory asked at t = ⊥

-- With this answer all requests for the arguments are answered.
pub record IsLastAnswer (x : LoweredCall) (asked : List Asked) (at : ℕ) (v : Val) : Type 0 where
  pub sent : WasSent x v
  pub all : length (answers_in asked ++ at ∷ []) ≡ length (sent_requests x v)

-- the causes where an allocator answers while arguments are placed
abbrev pub PlacedCause : State → LoweredCall → List Asked → List CoreValue → Trap → Type 0
PlacedCause s x asked values trap.CoreShape = HaveKinds one_number values → ⊥
PlacedCause s x asked values trap.Overlap =
    (v : Val) × IsLastAnswer x asked (slot_at values 0) v
    × (AreDisjoint (regions_of (sent_requests x v) (answers_in asked ++ slot_at values 0 ∷ [])) → ⊥)
PlacedCause s x asked values trap.TableFull =
    (v : Val) × IsLastAnswer x asked (slot_at values 0) v
    × (indices_left (table_at s.tables x.link.instance)
    < added_count (args_receiver x) (sent_leaves x v))
PlacedCause s x asked values trap.EngineMemory =
    (v : Val) × IsLastAnswer x asked (slot_at values 0) v × (sent_leaves x v ≢ [])
PlacedCause s x asked values t =
    AnswerCause (memory_at s.memories x.link.instance) asked (slot_at values 0) t

-- With this answer all requests for the result are answered.
pub record IsLastBack (x : LoweredCall) (r : BodyReturn) (more : List Asked) (at : ℕ) (v : Val)
    : Type 0 where
  pub returned : WasReturned x r v
  pub all : length (answers_back x more ++ at ∷ []) ≡ length (returned_requests x r v)

-- the causes where an allocator answers while a result is placed
abbrev pub HandedCause : State → LoweredCall → BodyReturn → List Asked → List CoreValue → Trap
    → Type 0
HandedCause s x r more values trap.CoreShape = HaveKinds one_number values → ⊥
HandedCause s x r more values trap.Overlap =
    (v : Val) × IsLastBack x r more (slot_at values 0) v
    × (AreDisjoint
    (regions_of (returned_requests x r v) (answers_back x more ++ slot_at values 0 ∷ [])) → ⊥)
HandedCause s x r more values trap.TableFull =
    (v : Val) × IsLastBack x r more (slot_at values 0) v
    × (indices_left (table_at s.tables x.caller)
    < added_count (result_receiver x) (returned_leaves x v))
HandedCause s x r more values trap.EngineMemory =
    (v : Val) × IsLastBack x r more (slot_at values 0) v × (returned_leaves x v ≢ [])
HandedCause s x r more values t =
    AnswerCause (memory_at s.memories x.caller) more (slot_at values 0) t

-- a result that goes by memory has a place that is not aligned; one that is passes the end of the
-- caller's memory
abbrev pub PlaceCause : LoweredCall → List ℕ → Trap → Type 0
PlaceCause x memory trap.Misaligned =
    (is_by_memory x ≡ true)
    × (IsAligned (align_of (tuple_of (types_of x.link results))) (result_place_of x) → ⊥)
PlaceCause x memory trap.PointerBounds =
    (is_by_memory x ≡ true)
    × IsAligned (align_of (tuple_of (types_of x.link results))) (result_place_of x)
    × (length memory < result_place_of x + size_of (tuple_of (types_of x.link results)))
PlaceCause x memory t = ⊥

-- what is wrong with the result itself, or else with its place
abbrev pub ResultCause : State → LoweredCall → BodyReturn → Trap → Type 0
ResultCause s x r t =
    ((f : AbiFault) × (trap_of f ≡ t)
    × LiftStops (returner_view x r) results (types_of x.link results) r.values f)
    ⊎ ((v : Val) × WasReturned x r v × PlaceCause x (memory_at s.memories x.caller) t)

-- the causes where a body returns
abbrev pub BodyCause : State → LoweredCall → BodyReturn → Trap → Type 0
BodyCause s x r trap.CoreShape = HaveKinds (result_kinds x.link) r.values → ⊥
BodyCause s x r trap.BorrowsLeft =
    NoneIsBorrowed (table_at s.tables x.link.instance) x.place → ⊥
BodyCause s x r trap.TableFull =
    (v : Val) × WasReturned x r v
    × (length (returned_requests x r v) ≡ length (answers_back x []))
    × (indices_left (table_at s.tables x.caller)
    < added_count (result_receiver x) (returned_leaves x v))
BodyCause s x r trap.EngineMemory =
    TakesMemory (returner_view x r) results (types_of x.link results) r.values
BodyCause s x r t = ResultCause s x r t

-- a function that gives nothing back gave something
abbrev pub NothingCause : List CoreValue → Trap → Type 0
NothingCause values trap.CoreShape = values ≢ []
NothingCause values t = ⊥

-- the causes at a return
abbrev pub ReturnCause : State → List Doing → ℕ → List CoreValue → Trap → Type 0
ReturnCause s [] i values t = ⊥
ReturnCause s (root j ∷ ds) i values t = NothingCause values t
ReturnCause s (placing x asked ∷ ds) i values t = PlacedCause s x asked values t
ReturnCause s (body x asked ∷ ds) i values t =
    BodyCause s x (record { callee = i; values = values; state = s }) t
ReturnCause s (handing x asked r more ∷ ds) i values t = HandedCause s x r more values t
ReturnCause s (tidying x asked r more ∷ ds) i values t = NothingCause values t
ReturnCause s (destroys dropper j ∷ ds) i values t = NothingCause values t

-- ---- moves

-- a write passes the end of the memory
abbrev pub WriteCause : State → ℕ → ℕ → ℕ → Trap → Type 0
WriteCause s i at count trap.GuestBounds = length (memory_at s.memories i) < at + count
WriteCause s i at count t = ⊥

-- a growth that fits may find no memory
abbrev pub GrowCause : State → ℕ → ℕ → Trap → Type 0
GrowCause s i pages trap.EngineMemory =
    (0 < pages) × (length (memory_at s.memories i) + pages * PAGE_SIZE ≤ MAX_PAGES * PAGE_SIZE)
GrowCause s i pages t = ⊥

-- the guest stops
abbrev pub StopCause : Trap → Type 0
StopCause trap.Unreachable = ⊤
StopCause t = ⊥

-- The trap's cause is there, where this instance acts and this goes on.
abbrev pub Cause : Plan → State → List Doing → ℕ → Move → Trap → Type 0
Cause plan s ds i (move.Write at bytes) t = WriteCause s i at (length bytes.items) t
Cause plan s ds i (move.Grow pages) t = GrowCause s i pages t
Cause plan s ds i (move.Call func args) t =
    CallCause s ds i (core_func_at plan i func) args.items t
Cause plan s ds i (move.Return values) t = ReturnCause s ds i values.items t
Cause plan s ds i move.Unreachable t = StopCause t

-- ---- the order

-- the traps of a lift, of which one at most has a cause
abbrev pub lift_traps : List Trap
lift_traps =
    trap.Misaligned ∷ trap.PointerBounds ∷ trap.BadChar ∷ trap.BadCase ∷ trap.TooLarge
    ∷ trap.BadText ∷ trap.NoHandle ∷ trap.WrongResource ∷ trap.StillLent ∷ trap.NotOwned ∷ []

-- The traps that a call can meet, in order: those that come before memory may be wanted.
abbrev pub call_order : Option CoreFunc → List Trap
call_order None = trap.UnknownFunction ∷ []
call_order (Some guest) = trap.UnknownFunction ∷ []
call_order (Some (lowered l)) =
    trap.CoreShape ∷ trap.MayNotLeave ∷ trap.CalleeClosed ∷ trap.StackFull ∷ []
call_order (Some (makes r)) = trap.CoreShape ∷ trap.MayNotLeave ∷ trap.TableFull ∷ []
call_order (Some (drops r d)) =
    trap.CoreShape ∷ trap.MayNotLeave ∷ trap.NoHandle ∷ trap.WrongResource ∷ trap.StillLent
    ∷ trap.CalleeClosed ∷ trap.StackFull ∷ []
call_order (Some (represents r)) =
    trap.CoreShape ∷ trap.NoHandle ∷ trap.WrongResource ∷ []

-- the traps of a call behind those
abbrev pub call_order_behind : Option CoreFunc → List Trap
call_order_behind (Some (lowered l)) = lift_traps ++ trap.TableFull ∷ []
call_order_behind f = []

-- the order in which the causes of a return are looked for
abbrev pub return_order : List Doing → List Trap
return_order [] = []
return_order (placing x asked ∷ ds) =
    trap.CoreShape ∷ trap.Misaligned ∷ trap.PointerBounds ∷ trap.Overlap ∷ trap.TableFull ∷ []
return_order (body x asked ∷ ds) = trap.CoreShape ∷ trap.BorrowsLeft ∷ []
return_order (handing x asked r more ∷ ds) =
    trap.CoreShape ∷ trap.Misaligned ∷ trap.PointerBounds ∷ trap.Overlap ∷ trap.TableFull ∷ []
return_order (d ∷ ds) = trap.CoreShape ∷ []

-- the traps of a return behind those
abbrev pub return_order_behind : List Doing → List Trap
return_order_behind (body x asked ∷ ds) = lift_traps ++ trap.TableFull ∷ []
return_order_behind ds = []

-- the traps of a move that come before the machine may find no memory
abbrev pub order_before : Plan → List Doing → ℕ → Move → List Trap
order_before plan ds i (move.Write at bytes) = trap.GuestBounds ∷ []
order_before plan ds i (move.Grow pages) = []
order_before plan ds i (move.Call func args) = call_order (core_func_at plan i func)
order_before plan ds i (move.Return values) = return_order ds
order_before plan ds i move.Unreachable = trap.Unreachable ∷ []

-- those behind
abbrev pub order_behind : Plan → List Doing → ℕ → Move → List Trap
order_behind plan ds i (move.Call func args) = call_order_behind (core_func_at plan i func)
order_behind plan ds i (move.Return values) = return_order_behind ds
order_behind plan ds i m = []

-- all traps of a move, in order
abbrev pub order : Plan → List Doing → ℕ → Move → List Trap
order plan ds i m = order_before plan ds i m ++ order_behind plan ds i m

-- The trap is the first in this order whose cause is there.
pub record IsFirst (order : List Trap) (cause : Trap → Type 0) (t : Trap) : Type 0 where
  pub earlier : List Trap
  pub later : List Trap
  pub in_order : order ≡ earlier ++ t ∷ later
  pub none_earlier : AllByRecursion (λ u. cause u → ⊥) earlier
  pub present : cause t

-- The machine may find no memory for this move: it may want some, and no cause of those is there
-- that come before.
pub record MayFindNoMemory (plan : Plan) (s : State) (ds : List Doing) (i : ℕ) (m : Move)
    : Type 0 where
  pub wants : Cause plan s ds i m trap.EngineMemory
  pub none_before : AllByRecursion (λ u. Cause plan s ds i m u → ⊥) (order_before plan ds i m)
