-- One step of the machine, a row a move (CanonicalABI.md, "canon lift", "canon lower" and the
-- resource built-ins; the order of the checks is this project's own choice). What a row does not
-- name stays as it was.
use Rattle.std.specs.Prelude.{◌≡◌, ◌≢◌, ℕ, ◌+◌, ◌*◌, ◌<◌, ◌≤◌, ◌⊎◌, ⊤, Bool, true, false}
use Rattle.std.specs.Prelude.{List, [], ◌∷◌, ◌++◌, length, map, take, Option, Some, None, slice_get}
use Rattle.std.specs.Prelude.{slice_set, if◌then◌else◌, Result, Ok, Err}
use Rattle.cm_types.specs.CoreValues.{kind_of}
use Rattle.cm_types.specs.declared.core_value.CoreKind.{CoreKind}
use Rattle.cm_types.specs.declared.core_value.CoreKind.TheVariants as kind
use Rattle.cm_types.specs.declared.core_value.CoreValue.{CoreValue}
use Rattle.cm_types.specs.declared.core_value.CoreValue.TheVariants as core_value
use Rattle.cm_types.specs.declared.resource.ResourceId.{ResourceId}
use Rattle.cm_types.specs.Types.{Fields}
use Rattle.cm_types.specs.Values.{Val}
use Rattle.cm_handles.specs.Handles.{Handles, handle_at, after_add, after_release, next_index}
use Rattle.cm_handles.specs.Handles.{indices_left, look_up, if_not_lent}
use Rattle.cm_handles.specs.declared.handle.Handle.{Handle}
use Rattle.cm_handles.specs.declared.handle.HandleKind.{HandleKind}
use Rattle.cm_handles.specs.declared.handle.HandleKind.TheVariants as handle
use Rattle.cm_handles.specs.declared.fault.HandleFault.{HandleFault}
use Rattle.cm_handles.specs.declared.fault.HandleFault.TheVariants as handle_fault
use Rattle.cm_abi_model.specs.declared.fault.AbiFault.{AbiFault}
use Rattle.cm_abi_model.specs.declared.fault.AbiFault.TheVariants as fault
use Rattle.cm_abi_model.specs.declared.request.Request.{Request}
use Rattle.cm_abi_model.specs.Denotes.{Denotes}
use Rattle.cm_abi_model.specs.Numbers.{slot_at}
use Rattle.cm_abi_model.specs.Receives.{HandleLeaf, owned_leaf, borrowed_leaf, Receives}
use Rattle.cm_abi_model.specs.Receives.{call_bytes}
use Rattle.cm_abi_model.specs.LiftStops.{LiftStops}
use Rattle.cm_abi_model.specs.Requests.{is_spilled, parts_of, stored_charset}
use Rattle.cm_abi_model.specs.Stores.{Framed, Given}
use Rattle.cm_abi_model.specs.Taken.{Met, Transferable, met, after_met, lent_of}
use Rattle.cm_abi_model.specs.Views.{View, Way, params, results}
use Rattle.cm_abi_model.specs.Giving.{added_count, after_given, numbers_given}
use Rattle.cm_abi_model.specs.declared.receiver.Receiver.{Receiver}
use Rattle.cm_abi_model.specs.Answering.{answer_fault, regions_of}
use Rattle.cm_abi_model.specs.Overlap.{AreDisjoint}
use Rattle.cm_abi_model.specs.Answered.{last_answer}
use Rattle.cm_abi_model.specs.HandleLeaves.{owned_in}
use Rattle.cm_machine_model.specs.declared.event.Event.{Event}
use Rattle.cm_machine_model.specs.declared.event.Event.TheVariants as event
use Rattle.cm_machine_model.specs.declared.event.Trap.{Trap}
use Rattle.cm_machine_model.specs.declared.event.Trap.TheVariants as trap
use Rattle.cm_machine_model.specs.declared.frame.Call.{Call}
use Rattle.cm_machine_model.specs.declared.frame.Frame.{Frame}
use Rattle.cm_machine_model.specs.declared.frame.Phase.{Phase}
use Rattle.cm_machine_model.specs.declared.frame.Phase.TheVariants as phase
use Rattle.cm_machine_model.specs.declared.frame.Place.{Place}
use Rattle.cm_machine_model.specs.declared.frame.Place.TheVariants as place
use Rattle.cm_machine_model.specs.declared.frame.Purpose.{Purpose}
use Rattle.cm_machine_model.specs.declared.frame.Purpose.TheVariants as purpose
use Rattle.cm_machine_model.specs.declared.limits.TheConstants.{MAX_FRAMES, MAX_MEMORY_SIZE}
use Rattle.cm_machine_model.specs.declared.limits.TheConstants.{PAGE_SIZE}
use Rattle.cm_machine_model.specs.declared.moves.Move.{Move}
use Rattle.cm_machine_model.specs.declared.moves.Move.TheVariants as move
use Rattle.cm_machine_model.specs.Memories.{memory_at, after_write, after_growth, pages_of}
use Rattle.cm_machine_model.specs.Passages.{Carries, HasAnswers, IsAnswered, IsScanned, as_args}
use Rattle.cm_machine_model.specs.Passages.{asked_for}
use Rattle.cm_machine_model.specs.Plan.{Plan, CoreFunc, Link, guest, lowered, makes, drops}
use Rattle.cm_machine_model.specs.Plan.{represents, core_func_at, Reaches, types_of}
use Rattle.cm_machine_model.specs.Plan.{receiver_side, taken_kinds, entered_kinds, returned_kinds}
use Rattle.cm_machine_model.specs.Stack.{actor, below_top}
use Rattle.cm_machine_model.specs.State.{State, Passage, after_trap, is_closed, lends_after_call}
use Rattle.cm_machine_model.specs.State.{lends_to, table_at, tables_after_call, view_of}
use Rattle.cm_machine_model.specs.State.{with_places}

-- ---- traps and checks

-- from this state the machine traps
abbrev pub Traps : State → Trap → Event → State → Type 0
Traps s t e new = (e ≡ event.Trapped t) × (new ≡ after_trap s)

-- a check: where it does not hold the machine traps, else the row goes on
abbrev pub Unless : State → Type 0 → Trap → (Event → State → Type 0) → Event → State → Type 0
Unless s P t row e new = ((P → ⊥) × Traps s t e new) ⊎ (P × row e new)

-- the trap of what is wrong with a value or an answer
abbrev pub trap_of : AbiFault → Trap
trap_of fault.PointerBounds = trap.PointerBounds
trap_of fault.Misaligned = trap.Misaligned
trap_of fault.BadChar = trap.BadChar
trap_of fault.BadCase = trap.BadCase
trap_of fault.BadText = trap.BadText
trap_of fault.TooLarge = trap.TooLarge
trap_of fault.NoHandle = trap.NoHandle
trap_of fault.WrongResource = trap.WrongResource
trap_of fault.StillLent = trap.StillLent
trap_of fault.NotOwned = trap.NotOwned
trap_of fault.TableFull = trap.TableFull
trap_of fault.Overlap = trap.Overlap
trap_of fault.EngineMemory = trap.EngineMemory

-- the trap of what is wrong with a handle
abbrev pub trap_of_handle : HandleFault → Trap
trap_of_handle handle_fault.NoHandle = trap.NoHandle
trap_of_handle handle_fault.WrongResource = trap.WrongResource
trap_of_handle handle_fault.StillLent = trap.StillLent
trap_of_handle handle_fault.NotOwned = trap.NotOwned
trap_of_handle handle_fault.Full = trap.TableFull
trap_of_handle handle_fault.Memory = trap.EngineMemory

-- an answer of an allocator that will not do traps
abbrev pub UnlessWrong : State → Option AbiFault → (Event → State → Type 0) → Event → State → Type 0
UnlessWrong s None row e new = row e new
UnlessWrong s (Some f) row e new = Traps s (trap_of f) e new

-- the core values are of these kinds, one for one
abbrev pub AreOf : List CoreKind → List CoreValue → Type 0
AreOf kinds values = map kind_of values ≡ kinds

-- A call's instance may call out while its body runs (CanonicalABI.md, "Component Instance State",
-- `may_leave`).
abbrev pub MayLeaveIn : Phase → Type 0
MayLeaveIn phase.Arguments = ⊥
MayLeaveIn phase.Body = ⊤
MayLeaveIn phase.Results = ⊥
MayLeaveIn (phase.PostReturn result) = ⊥

-- An instance may call out while a body of its own runs, that of a root, a call or a destructor.
abbrev pub MayLeave : Purpose → Type 0
MayLeave purpose.Root = ⊤
MayLeave (purpose.Call call) = MayLeaveIn call.phase
MayLeave (purpose.Destructor dropper) = ⊤

-- no trap has closed the instance
abbrev pub IsOpen : State → ℕ → Type 0
IsOpen s instance = is_closed s instance ≡ false

-- there is room for one more frame
abbrev pub HasRoom : State → Type 0
HasRoom s = length s.stack < MAX_FRAMES

-- no handle that was borrowed for this call stands in the table
abbrev pub HasNoBorrows : Handles → ℕ → Type 0
HasNoBorrows t call =
    (index : ℕ) (h : Handle) → handle_at t index ≡ Some h → h.kind ≡ handle.Borrowed call → ⊥

-- ---- frames

-- the place of the frame on top, from 0 at the bottom
abbrev pub top_place : State → ℕ
top_place s = length (below_top s.stack)

-- the state with one frame more
abbrev pub pushed : Frame → State → State
pushed f s = record s { stack = f ∷ s.stack }

-- the state with the frame on top gone
abbrev pub popped : State → State
popped s = record s { stack = below_top s.stack }

-- the call on top is in another phase now
abbrev pub in_phase : Phase → ℕ → Call → State → State
in_phase p instance call s =
    record s {
      stack = record { instance = instance; purpose = purpose.Call (record call { phase = p }) }
          ∷ below_top s.stack;
    }

-- where the caller wants a result that does not go in core values: the last of what it passes
abbrev pub result_place : Link → List CoreValue → ℕ
result_place l args =
    if is_spilled results (types_of l results) then slot_at args (length (entered_kinds l)) else 0

-- a call by this instance of its core function, before anything is handed over
abbrev pub new_call : ℕ → ℕ → Link → List CoreValue → Call
new_call caller func l args = record {
  caller = caller;
  func = func;
  result_at = result_place l args;
  phase = phase.Arguments;
}

-- its frame
abbrev pub call_frame : ℕ → ℕ → Link → List CoreValue → Frame
call_frame caller func l args = record {
  instance = l.instance;
  purpose = purpose.Call (new_call caller func l args);
}

-- ---- Write and Grow

-- the state with another memory of an instance
abbrev pub with_memory : State → ℕ → List ℕ → State
with_memory s instance memory = record s { memories = slice_set s.memories instance memory }

-- A write beyond the end of the memory traps; else the bytes stand there.
abbrev pub Writes : State → ℕ → ℕ → List ℕ → Event → State → Type 0
Writes s i at bytes =
    Unless s (at + length bytes ≤ length (memory_at s.memories i)) trap.GuestBounds
    (λ e new. (e ≡ event.Done)
    × (new ≡ with_memory s i (after_write (memory_at s.memories i) at bytes)))

-- so many more pages fit
abbrev pub Fits : State → ℕ → ℕ → Type 0
Fits s i pages = length (memory_at s.memories i) + pages * PAGE_SIZE ≤ MAX_MEMORY_SIZE

-- A growth that does not fit changes nothing; one that does adds pages of zeros, and is answered by
-- the pages before, unless there is no memory for it.
abbrev pub Grows : State → ℕ → ℕ → Event → State → Type 0
Grows s i pages e new =
    ((Fits s i pages → ⊥) × (e ≡ event.Grown None) × (new ≡ s))
    ⊎ (Fits s i pages × (e ≡ event.Grown (Some (pages_of (memory_at s.memories i))))
    × (new ≡ with_memory s i (after_growth (memory_at s.memories i) pages)))
    ⊎ (Fits s i pages × (0 < pages) × Traps s trap.EngineMemory e new)

-- ---- lifting

-- The state after a lift by this instance, in the call with this number: what was met is out of its
-- table, or lent, and the resources are on their way.
abbrev pub after_lift : State → ℕ → ℕ → List Met → Passage → State
after_lift s giver call ms p = record s {
  tables = slice_set s.tables giver (after_met (table_at s.tables giver) ms);
  owners = with_places (place.Travelling call) (owned_in p.leaves) s.owners;
  lends = s.lends ++ lends_to call giver (lent_of ms);
  passage = Some p;
}

-- the core values denote no value that has neither parts nor handles, which takes no memory to scan
abbrev pub MayWantMemory : View → Way → Fields → List CoreValue → Type 0
MayWantMemory w way types slots =
    (v : Val) → Denotes w way types slots v → parts_of way types v ≡ 0 → ⊥

-- A lift of what a link passes that way: it stops at what is wrong; or there is no memory; or the
-- core values denote one value that can be handed over, of which something is kept.
abbrev pub Lifts : State → View → Link → Way → List CoreValue
    → (Val → Passage → Event → State → Type 0) → Event → State → Type 0
Lifts s w l way slots row e new =
    ((f : AbiFault) × LiftStops w way (types_of l way) slots f × Traps s (trap_of f) e new)
    ⊎ (MayWantMemory w way (types_of l way) slots × Traps s trap.EngineMemory e new)
    ⊎ ((v : Val) × (p : Passage) × Denotes w way (types_of l way) slots v
    × Transferable w way (types_of l way) slots v × IsScanned w l way slots v p
    × row v p e new)

-- where there may be no memory once something was lifted
abbrev pub UnlessNoMemory : State → Type 0 → (Event → State → Type 0) → Event → State → Type 0
UnlessNoMemory s P row e new = (P × Traps s trap.EngineMemory e new) ⊎ row e new

-- ---- handing over

-- the resources to be owned stand at these indices of the receiver's table now
abbrev pub owners_given : ℕ → List HandleLeaf → List ℕ → List Place → List Place
owners_given i [] ns owners = owners
owners_given i (leaf ∷ leaves) [] owners = owners
owners_given i (owned_leaf h ∷ leaves) (n ∷ ns) owners =
    owners_given i leaves ns
    (slice_set owners h.serial (place.InTable i n))
owners_given i (borrowed_leaf h ∷ leaves) (n ∷ ns) owners = owners_given i leaves ns owners

-- what the value of a passage is given by its receiver
abbrev pub given_to : State → Link → Way → Receiver → Passage → Given
given_to s l way to p = record {
  places = p.places;
  numbers = numbers_given to (table_at s.tables to.instance) p.leaves;
  charset = stored_charset (receiver_side l way).encoding;
}

-- the receiver has the handles, and this memory; nothing is on its way
abbrev pub after_handing : State → Receiver → Passage → List ℕ → State
after_handing s to p memory = record s {
  memories = slice_set s.memories to.instance memory;
  tables = slice_set s.tables to.instance
      (after_given to (table_at s.tables to.instance) p.leaves);
  owners = owners_given to.instance p.leaves
      (numbers_given to (table_at s.tables to.instance) p.leaves) s.owners;
  passage = None;
}

-- The value is received: the core values are the least that denote it, each part is at its place,
-- and of the receiver's memory nothing but its bytes is changed.
pub record IsHanded (s : State) (l : Link) (way : Way) (to : Receiver) (p : Passage) (v : Val)
    (memory : List ℕ) (slots : List CoreValue) : Type 0 where
  pub received : Receives
      (view_of (after_handing s to p memory) to.instance (receiver_side l way).encoding to.call)
      way (types_of l way) slots (given_to s l way to p) v
  pub framed : Framed (memory_at s.memories to.instance) memory
      (call_bytes (given_to s l way to p) way (types_of l way) v)

-- Regions that overlap trap, and so does a table that is full; where there are handles, there may
-- be no memory; else the value is handed over.
abbrev pub HandsOver : State → Link → Way → Receiver → Passage → Val → List Request → List ℕ
    → (List CoreValue → State → Event → State → Type 0) → Event → State → Type 0
HandsOver s l way to p v rs answers row =
    Unless s (AreDisjoint (regions_of rs answers)) trap.Overlap
    (Unless s (added_count to p.leaves ≤ indices_left (table_at s.tables to.instance))
    trap.TableFull
    (UnlessNoMemory s (p.leaves ≢ [])
    (λ e new. (memory : List ℕ) × (slots : List CoreValue)
    × IsHanded s l way to p v memory slots
    × row slots (after_handing s to p memory) e new)))

-- ---- where a call goes on

-- the state once a call has ended: its lends are gone, and its frame is popped
abbrev pub after_call : ℕ → State → State
after_call call s = record s {
  tables = tables_after_call call s.lends s.tables;
  lends = lends_after_call call s.lends;
  stack = below_top s.stack;
}

-- A call ends, and the caller goes on with these values.
abbrev pub EndsCall : ℕ → Call → List CoreValue → State → Event → State → Type 0
EndsCall place call values s e new =
    (e ≡ event.Resume call.caller values) × (new ≡ after_call place s)

-- the flat result that the caller gets: none where it goes by memory
abbrev pub flat_result : Link → List CoreValue → List CoreValue
flat_result l slots = if is_spilled results (types_of l results) then [] else slots

-- the flat result as a frame keeps it, one core value at most
abbrev pub first_value : List CoreValue → Option CoreValue
first_value [] = None
first_value (c ∷ cs) = Some c

-- and as it is given back
abbrev pub as_values : Option CoreValue → List CoreValue
as_values None = []
as_values (Some c) = c ∷ []

-- Where the result is handed over the callee tidies up, if it has a function for that, which gets
-- the core values that the body returned; else the call ends.
abbrev pub Finishes : Option ℕ → ℕ → Link → Call → Passage → List CoreValue → State → Event → State
    → Type 0
Finishes None place l call p slots s = EndsCall place call (flat_result l slots) s
Finishes (Some f) place l call p slots s =
    λ e new. (e ≡ event.PostReturn l.instance f p.slots)
    × (new ≡ in_phase (phase.PostReturn (first_value (flat_result l slots))) l.instance call s)

-- where a value is handed over: the body begins, or the call finishes
abbrev pub IsReceived : Way → ℕ → Link → Call → Passage → List CoreValue → State → Event → State
    → Type 0
IsReceived params place l call p slots s =
    λ e new. (e ≡ event.Enter l.instance l.func slots)
    × (new ≡ in_phase phase.Body l.instance call s)
IsReceived results place l call p slots s = Finishes l.post_return place l call p slots s

-- who receives: the callee, or the caller
abbrev pub receiver_of : Way → ℕ → Link → Call → Receiver
receiver_of params place l call = record { instance = l.instance; call = place }
receiver_of results place l call = record { instance = call.caller; call = place }

-- who gives: the caller, or the callee
abbrev pub giver_of : Way → Link → Call → ℕ
giver_of params l call = call.caller
giver_of results l call = l.instance

-- the receiver's allocator is asked
abbrev pub Asks : Option ℕ → ℕ → List CoreValue → State → Event → State → Type 0
Asks None i args s e new = ⊥
Asks (Some f) i args s e new = (e ≡ event.Realloc i f args) × (new ≡ s)

-- The receiver's allocator is asked for this request; where there is none, the value is handed
-- over.
abbrev pub GoesOnBy : Option Request → State → ℕ → Link → Way → Call → Passage → Val → List Request
    → List ℕ → Event → State → Type 0
GoesOnBy (Some r) s place l way call p v rs answers =
    Asks (receiver_side l way).realloc (receiver_of way place l call).instance
    (as_args (last_answer answers) r) s
GoesOnBy None s place l way call p v rs answers =
    HandsOver s l way (receiver_of way place l call) p v rs answers
    (IsReceived way place l call p)

-- With these answers the next request comes, or behind the last the value is handed over.
abbrev pub GoesOn : State → ℕ → Link → Way → Call → Passage → Val → List ℕ → Event → State → Type 0
GoesOn s place l way call p v answers =
    GoesOnBy (slice_get (asked_for l way p v) (length answers)) s place l way call p v
    (asked_for l way p v) answers

-- ---- Call

-- the caller's view at a call
abbrev pub args_view : State → ℕ → Link → View
args_view s caller l = view_of s caller l.caller.encoding (length s.stack)

-- the core values that pass the arguments
abbrev pub arg_slots : Link → List CoreValue → List CoreValue
arg_slots l args = take (length (entered_kinds l)) args

-- the state in which the arguments are lifted and the call's frame stands
abbrev pub after_lift_of_args : State → ℕ → ℕ → Link → List CoreValue → Val → Passage → State
after_lift_of_args s caller func l args v p =
    pushed (call_frame caller func l args)
    (after_lift s caller (length s.stack)
    (met (args_view s caller l) params (types_of l params) (arg_slots l args) v) p)

-- The arguments of a call are lifted, its frame is pushed, and the first request comes, or its body
-- begins.
abbrev pub PassesArguments : State → ℕ → ℕ → Link → List CoreValue → Event → State → Type 0
PassesArguments s caller func l args =
    Lifts s (args_view s caller l) l params (arg_slots l args)
    (λ v p. UnlessNoMemory (after_lift_of_args s caller func l args v p)
    (0 < parts_of params (types_of l params) v)
    (GoesOn (after_lift_of_args s caller func l args v p) (length s.stack) l params
    (new_call caller func l args) p v []))

-- A call of a lowered function: the core values, the caller, the callee and the stack are looked at
-- before its arguments are.
abbrev pub CallsLowered : State → Frame → ℕ → Link → List CoreValue → Event → State → Type 0
CallsLowered s top func l args =
    Unless s (AreOf (taken_kinds l) args) trap.CoreShape
    (Unless s (MayLeave top.purpose) trap.MayNotLeave
    (Unless s (IsOpen s l.instance) trap.CalleeClosed
    (Unless s (HasRoom s) trap.StackFull
    (PassesArguments s (actor top) func l args))))

-- one number of 32 bits
abbrev pub one_i32 : List CoreKind
one_i32 = kind.I32 ∷ []

-- the most resources that can be made: their serial numbers are below 2^64 - 1
abbrev pub MAX_SERIALS : ℕ
MAX_SERIALS = 18_446_744_073_709_551_615

-- a serial number is left, and an index
pub record CanMake (s : State) (i : ℕ) : Type 0 where
  pub serial : length s.owners < MAX_SERIALS
  pub index : 0 < indices_left (table_at s.tables i)

-- a resource was made: its handle, owned and not lent, stands at the next index
abbrev pub after_new : State → ℕ → ResourceId → ℕ → State
after_new s i r rep = record s {
  tables = slice_set s.tables i (after_add (table_at s.tables i) (record {
    resource = r;
    serial = length s.owners;
    lends = 0;
    rep = rep;
    kind = handle.Owned;
  }));
  owners = s.owners
      ++ place.InTable i (next_index (table_at s.tables i)) ∷ [];
}

-- A resource is made for a representation (CanonicalABI.md, "canon resource.new").
abbrev pub Makes : State → Frame → ResourceId → List CoreValue → Event → State → Type 0
Makes s top r args =
    Unless s (AreOf one_i32 args) trap.CoreShape
    (Unless s (MayLeave top.purpose) trap.MayNotLeave
    (Unless s (CanMake s (actor top)) trap.TableFull
    (UnlessNoMemory s ⊤
    (λ e new. (e ≡ event.Resume (actor top)
    (core_value.I32 (next_index (table_at s.tables (actor top))) ∷ []))
    × (new ≡ after_new s (actor top) r (slot_at args 0))))))

-- a handle is gone from a table
abbrev pub without_handle : State → ℕ → ℕ → State
without_handle s i index =
    record s { tables = slice_set s.tables i (after_release (table_at s.tables i) index) }

-- an owned handle is gone from a table, and its resource is dropped with it
abbrev pub after_drop : State → ℕ → ℕ → Handle → State
after_drop s i index h =
    record (without_handle s i index) { owners = slice_set s.owners h.serial place.Dropped }

-- An owned handle goes; its destructor runs, if there is one, in the instance that defines the
-- resource (CanonicalABI.md, "canon resource.drop").
abbrev pub DropsOwned : State → ℕ → ResourceId → Option ℕ → ℕ → Handle → Event → State → Type 0
DropsOwned s i r None index h e new =
    (e ≡ event.Resume i []) × (new ≡ after_drop s i index h)
DropsOwned s i r (Some f) index h e new =
    Unless s (IsOpen s r.component) trap.CalleeClosed
    (Unless s (HasRoom s) trap.StackFull
    (λ e new. (e ≡ event.Dtor r.component f h.rep)
    × (new ≡ pushed (record { instance = r.component; purpose = purpose.Destructor i })
    (after_drop s i index h)))) e new

-- A handle goes: an owned one with its resource, a borrowed one alone.
abbrev pub DropsHandle : HandleKind → State → ℕ → ResourceId → Option ℕ → ℕ → Handle → Event → State
    → Type 0
DropsHandle handle.Owned s i r d index h = DropsOwned s i r d index h
DropsHandle (handle.Borrowed call) s i r d index h =
    λ e new. (e ≡ event.Resume i []) × (new ≡ without_handle s i index)

-- What was looked up is dropped, or is no handle that may be.
abbrev pub DropsFound : Result Handle HandleFault → State → ℕ → ResourceId → Option ℕ → ℕ → Event
    → State → Type 0
DropsFound (Err f) s i r d index = Traps s (trap_of_handle f)
DropsFound (Ok h) s i r d index = DropsHandle h.kind s i r d index h

-- A handle is dropped (CanonicalABI.md, "canon resource.drop").
abbrev pub Drops : State → Frame → ResourceId → Option ℕ → List CoreValue → Event → State → Type 0
Drops s top r d args =
    Unless s (AreOf one_i32 args) trap.CoreShape
    (Unless s (MayLeave top.purpose) trap.MayNotLeave
    (DropsFound (if_not_lent (look_up (table_at s.tables (actor top)) (slot_at args 0) r))
    s (actor top) r d (slot_at args 0)))

-- The caller gets the representation of the handle that was looked up, or traps.
abbrev pub TellsFound : Result Handle HandleFault → State → ℕ → Event → State → Type 0
TellsFound (Err f) s i e new = Traps s (trap_of_handle f) e new
TellsFound (Ok h) s i e new = (e ≡ event.Resume i (core_value.I32 h.rep ∷ [])) × (new ≡ s)

-- The caller gets the representation behind a handle (CanonicalABI.md, "canon resource.rep").
abbrev pub Represents : State → Frame → ResourceId → List CoreValue → Event → State → Type 0
Represents s top r args =
    Unless s (AreOf one_i32 args) trap.CoreShape
    (TellsFound (look_up (table_at s.tables (actor top)) (slot_at args 0) r) s (actor top))

-- A call of what a core function of the instance stands for.
abbrev pub Calls : State → Frame → ℕ → Option CoreFunc → List CoreValue → Event → State → Type 0
Calls s top func None args = Traps s trap.UnknownFunction
Calls s top func (Some guest) args = Traps s trap.UnknownFunction
Calls s top func (Some (lowered l)) args = CallsLowered s top func l args
Calls s top func (Some (makes r)) args = Makes s top r args
Calls s top func (Some (drops r d)) args = Drops s top r d args
Calls s top func (Some (represents r)) args = Represents s top r args

-- ---- Return

-- An allocator answers: the answer is kept, and no memory is changed.
abbrev pub Answers : State → Link → Way → Call → List CoreValue → Event → State → Type 0
Answers s l way call values e new =
    (p : Passage) × (v : Val) × (answers : List ℕ) × (r : Request)
    × (s.passage ≡ Some p)
    × Carries (memory_at s.memories (giver_of way l call)) l way p v
    × HasAnswers (asked_for l way p v) answers p
    × (slice_get (asked_for l way p v) (length answers) ≡ Some r)
    × UnlessWrong s
    (answer_fault (length (memory_at s.memories (receiver_of way (top_place s) l call).instance)) r
    (slot_at values 0))
    (λ e new. (q : Passage) × IsAnswered (asked_for l way p v) p (slot_at values 0) q
    × GoesOn (record s { passage = Some q }) (top_place s) l way call q v
    (answers ++ slot_at values 0 ∷ []) e new)
    e new

-- A result that goes by memory is stored where the caller wants it: that answers the request for
-- its tuple.
abbrev pub PlacesResult : Bool → State → Link → Call → Passage → Val → Event → State → Type 0
PlacesResult false s l call p v e new = GoesOn s (top_place s) l results call p v [] e new
PlacesResult true s l call p v e new =
    (r : Request) × (slice_get (asked_for l results p v) 0 ≡ Some r)
    × UnlessWrong s
    (answer_fault (length (memory_at s.memories call.caller)) r call.result_at)
    (λ e new. (q : Passage) × IsAnswered (asked_for l results p v) p call.result_at q
    × GoesOn (record s { passage = Some q }) (top_place s) l results call q v
    (call.result_at ∷ []) e new)
    e new

-- the callee's view at its body's return
abbrev pub result_view : State → Link → View
result_view s l = view_of s l.instance l.callee.encoding (top_place s)

-- the state in which the result is lifted
abbrev pub after_lift_of_result : State → Link → Call → List CoreValue → Val → Passage → State
after_lift_of_result s l call values v p =
    in_phase phase.Results l.instance call
    (after_lift s l.instance (top_place s)
    (met (result_view s l) results (types_of l results) values v) p)

-- A body returns: its result is lifted, and the first request comes, or it is handed over.
abbrev pub ReturnsResult : State → Link → Call → List CoreValue → Event → State → Type 0
ReturnsResult s l call values =
    Lifts s (result_view s l) l results values
    (λ v p. UnlessNoMemory (after_lift_of_result s l call values v p)
    (0 < parts_of results (types_of l results) v)
    (PlacesResult (is_spilled results (types_of l results))
    (after_lift_of_result s l call values v p) l call p v))

-- what a return means in each phase of a call
abbrev pub ReturnsIn : Phase → State → Link → Call → List CoreValue → Event → State → Type 0
ReturnsIn phase.Arguments s l call values =
    Unless s (AreOf one_i32 values) trap.CoreShape (Answers s l params call values)
ReturnsIn phase.Body s l call values =
    Unless s (AreOf (returned_kinds l) values) trap.CoreShape
    (Unless s (HasNoBorrows (table_at s.tables l.instance) (top_place s)) trap.BorrowsLeft
    (ReturnsResult s l call values))
ReturnsIn phase.Results s l call values =
    Unless s (AreOf one_i32 values) trap.CoreShape (Answers s l results call values)
ReturnsIn (phase.PostReturn result) s l call values =
    Unless s (values ≡ []) trap.CoreShape (EndsCall (top_place s) call (as_values result) s)

-- a return ends a root, a call's phase or a destructor
abbrev pub Returns : Plan → State → Purpose → List CoreValue → Event → State → Type 0
Returns plan s purpose.Root values e new =
    Unless s (values ≡ []) trap.CoreShape
    (λ e new. (e ≡ event.Ended) × (new ≡ popped s)) e new
Returns plan s (purpose.Call call) values e new =
    (l : Link) × Reaches plan call.caller call.func l × ReturnsIn call.phase s l call values e new
Returns plan s (purpose.Destructor dropper) values e new =
    Unless s (values ≡ []) trap.CoreShape
    (λ e new. (e ≡ event.Resume dropper []) × (new ≡ popped s)) e new

-- ---- a step

-- what a move of the frame on top leads to
abbrev pub Moves : Plan → State → Frame → Move → Event → State → Type 0
Moves plan s top (move.Write at bytes) = Writes s (actor top) at bytes.items
Moves plan s top (move.Grow pages) = Grows s (actor top) pages
Moves plan s top (move.Call func args) =
    Calls s top func (core_func_at plan (actor top) func) args.items
Moves plan s top (move.Return values) = Returns plan s top.purpose values.items
Moves plan s top move.Unreachable = Traps s trap.Unreachable

-- A step is one of the frame on top; where none stands, none is made.
abbrev pub StepOn : Plan → List Frame → State → Move → Event → State → Type 0
StepOn plan [] s m e new = ⊥
StepOn plan (top ∷ below) s m e new = Moves plan s top m e new

-- From s the move may lead to this event and this new state.
abbrev pub Step : Plan → State → Move → Event → State → Type 0
Step plan s m e new = StepOn plan s.stack s m e new
