-- Which index a new handle gets, told by the moves and the events alone (CanonicalABI.md, "Table
-- State": `add` takes the index that `remove` freed last, and else one that was never used).
use Rattle.std.specs.Prelude.{◌≡◌, ℕ, zero, suc, ◌+◌, ◌==◌, ⊤, if◌then◌else◌, List, [], ◌∷◌, length}
use Rattle.std.specs.Prelude.{Option, Some, None, slice_get, true}
use Rattle.cm_types.specs.declared.core_value.CoreValue.{CoreValue}
use Rattle.cm_types.specs.Values.{Val}
use Rattle.cm_handles.specs.Handles.{Handles, next_index}
use Rattle.cm_abi_model.specs.Giving.{added_count}
use Rattle.cm_abi_model.specs.Numbers.{slot_at}
use Rattle.cm_abi_model.specs.Taken.{taken_of}
use Rattle.cm_machine_model.specs.declared.event.Event.{Event}
use Rattle.cm_machine_model.specs.declared.event.Event.TheVariants as event
use Rattle.cm_machine_model.specs.declared.moves.Move.{Move}
use Rattle.cm_machine_model.specs.declared.moves.Move.TheVariants as move
use Rattle.cm_machine_laws.specs.Acting.{acts}
use Rattle.cm_machine_laws.specs.Doing.{BodyReturn, Doing, LoweredCall, body, core_func_by_index}
use Rattle.cm_machine_laws.specs.Doing.{doing, handing, placing}
use Rattle.cm_machine_model.specs.History.{Action, Occurrence, begins, moves}
use Rattle.cm_machine_model.specs.Plan.{CoreFunc, Plan, drops, lowered, makes, represents}
use Rattle.cm_machine_model.specs.State.{State, table_at}
use Rattle.cm_machine_laws.specs.Told.{WasReturned, WasSent, args_receiver, met_at_call}
use Rattle.cm_machine_laws.specs.Told.{met_at_return, result_receiver, returned_leaves, sent_leaves}

-- ---- the indices that are free

-- The free indices of an instance: those that were freed and are free still, the one freed last
-- first, and the least that was never used.
pub record Free : Type 0 where
  pub freed : List ℕ
  pub unused : ℕ

-- before anything happened: index 0 is no handle's, so the least is 1
abbrev pub none_used : Free
none_used = record { freed = []; unused = 1 }

-- the index that a new handle gets: the one freed last, else the least that was never used
abbrev pub index_among : List ℕ → ℕ → ℕ
index_among [] unused = unused
index_among (index ∷ freed) unused = index

abbrev pub index_for : Free → ℕ
index_for f = index_among f.freed f.unused

-- these are freed, one after another
abbrev pub after_freeing : List ℕ → Free → Free
after_freeing [] f = f
after_freeing (index ∷ indices) f =
    after_freeing indices (record { freed = index ∷ f.freed; unused = f.unused })

-- a handle is added: at the index that was freed last, else at the least that was never used
abbrev pub after_one_added : List ℕ → ℕ → Free
after_one_added [] unused = record { freed = []; unused = unused + 1 }
after_one_added (index ∷ freed) unused = record { freed = freed; unused = unused }

-- so many handles are added
abbrev pub after_adding : ℕ → Free → Free
after_adding zero f = f
after_adding (suc count) f = after_adding count (after_one_added f.freed f.unused)

-- ---- what a move does to them

-- what becomes of the free indices of one instance: these are freed, in this order, and then so
-- many handles are added
pub record Use : Type 0 where
  pub frees : List ℕ
  pub adds : ℕ

abbrev pub after_use : Use → Free → Free
after_use u f = after_adding u.adds (after_freeing u.frees f)

-- these indices, of the instance i
abbrev pub indices_of : ℕ → List ℕ → ℕ → List ℕ
indices_of i indices j = if i == j then indices else []

-- so many handles, for the instance i
abbrev pub count_for : ℕ → ℕ → ℕ → ℕ
count_for i count j = if i == j then count else 0

-- one instance's indices are freed, and then another's table gets so many handles; nobody else's
-- indices are freed or used
abbrev pub FreesAndAdds : ℕ → List ℕ → ℕ → ℕ → (ℕ → Use) → Type 0
FreesAndAdds giver indices receiver count uses = (j : ℕ)
    → uses j ≡ record { frees = indices_of giver indices j; adds = count_for receiver count j }

abbrev pub Frees : ℕ → List ℕ → (ℕ → Use) → Type 0
Frees giver indices uses = (j : ℕ)
    → uses j ≡ record { frees = indices_of giver indices j; adds = 0 }

abbrev pub Adds : ℕ → ℕ → (ℕ → Use) → Type 0
Adds receiver count uses = (j : ℕ)
    → uses j ≡ record { frees = []; adds = count_for receiver count j }

abbrev pub UsesNone : (ℕ → Use) → Type 0
UsesNone uses = (j : ℕ) → uses j ≡ record { frees = []; adds = 0 }

-- A call frees what it owns of the caller's, in reading order; where a body begins, the callee's
-- table gets the value's handles.
abbrev pub UsesAtCall : LoweredCall → Event → (ℕ → Use) → Type 0
UsesAtCall x (event.Enter i f args) uses =
    (v : Val) × WasSent x v
    × FreesAndAdds x.caller (taken_of (met_at_call x v)) x.link.instance
    (added_count (args_receiver x) (sent_leaves x v)) uses
UsesAtCall x e uses = (v : Val) × WasSent x v × Frees x.caller (taken_of (met_at_call x v)) uses

-- A body's return frees what its result owns of the callee's, in reading order; unless an allocator
-- is asked first, the caller's table gets the result's handles.
abbrev pub UsesAtReturn : LoweredCall → BodyReturn → Event → (ℕ → Use) → Type 0
UsesAtReturn x r (event.Realloc i f args) uses =
    (v : Val) × WasReturned x r v
    × Frees x.link.instance (taken_of (met_at_return x r v)) uses
UsesAtReturn x r e uses =
    (v : Val) × WasReturned x r v
    × FreesAndAdds x.link.instance (taken_of (met_at_return x r v)) x.caller
    (added_count (result_receiver x) (returned_leaves x v)) uses

-- an allocator's return frees nothing; where it was the last one, the value's handles are added
abbrev pub UsesByReturn : List Doing → BodyReturn → Event → (ℕ → Use) → Type 0
UsesByReturn (body x asked ∷ ds) r e uses = UsesAtReturn x r e uses
UsesByReturn (placing x asked ∷ ds) r (event.Enter i f args) uses =
    (v : Val) × WasSent x v
    × Adds x.link.instance (added_count (args_receiver x) (sent_leaves x v)) uses
UsesByReturn (handing x asked back more ∷ ds) r (event.Realloc i f args) uses = UsesNone uses
UsesByReturn (handing x asked back more ∷ ds) r e uses =
    (v : Val) × WasReturned x back v
    × Adds x.caller (added_count (result_receiver x) (returned_leaves x v)) uses
UsesByReturn ds r e uses = UsesNone uses

-- what a call does of what a core function stands for: a resource that is made gets a handle, and a
-- handle that is dropped frees its index
abbrev pub UsesByCall : State → List Doing → ℕ → Option CoreFunc → List CoreValue → Event
    → (ℕ → Use) → Type 0
UsesByCall old ds i (Some (lowered l)) args e uses =
    UsesAtCall
    (record { caller = i; link = l; args = args; state = old; place = length ds }) e uses
UsesByCall old ds i (Some (makes r)) args e uses = Adds i 1 uses
UsesByCall old ds i (Some (drops r d)) args e uses = Frees i (slot_at args 0 ∷ []) uses
UsesByCall old ds i f args e uses = UsesNone uses

-- what a move does that does not trap
abbrev pub UsesByMove : Plan → List Doing → State → ℕ → Move → Event → (ℕ → Use) → Type 0
UsesByMove plan ds old i (move.Call func args) e uses =
    UsesByCall old ds i (core_func_by_index plan (Some i) func) args.items e uses
UsesByMove plan ds old i (move.Return values) e uses =
    UsesByReturn ds (record { callee = i; values = values.items; state = old }) e uses
UsesByMove plan ds old i m e uses = UsesNone uses

-- what an action does, where this instance acts: a trap closes each instance whose indices it
-- frees, and a begin frees none
abbrev pub UsesBy : Plan → List Doing → State → Option ℕ → Action → Event → (ℕ → Use) → Type 0
UsesBy plan ds old acting a (event.Trapped t) uses = UsesNone uses
UsesBy plan ds old acting (moves m) e uses =
    (i : ℕ) × (acting ≡ Some i) × UsesByMove plan ds old i m e uses
UsesBy plan ds old acting (begins i) e uses = UsesNone uses

-- ---- what a history leaves

-- These are the free indices of each instance, by what was freed and added in a history.
abbrev pub AreLeft : Plan → List Occurrence → (ℕ → Free) → Type 0
AreLeft plan [] free = (j : ℕ) → free j ≡ none_used
AreLeft plan (x ∷ h) free =
    (before : ℕ → Free) × AreLeft plan h before
    × ((uses : ℕ → Use) × UsesBy plan (doing plan h) x.before (acts h) x.action x.event uses
    × ((j : ℕ) → free j ≡ after_use (uses j) (before j)))

-- the free indices of a table
abbrev pub free_in : Handles → Free
free_in t = record { freed = t.freed; unused = length t.slots }

-- A new handle gets the index that was freed last of those that are free still, else the least that
-- was never used; so do further ones, since the free indices of each instance are those that the
-- history left. (A closed instance gets no more handles.)
abbrev pub NextIndexIsTheLastFreed : Plan → List Occurrence → State → Type 0
NextIndexIsTheLastFreed plan h s =
    (free : ℕ → Free) × AreLeft plan h free
    × ((j : ℕ) → (slice_get s.closed j ≡ Some true → ⊥)
    → (next_index (table_at s.tables j) ≡ index_for (free j))
    × (free_in (table_at s.tables j) ≡ free j))
