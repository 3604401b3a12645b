-- What becomes of memories (CanonicalABI.md, "Storing"; core WebAssembly's `memory.grow`).
use Rattle.std.specs.Prelude.{◌≡◌, ◌≢◌, ℕ, ◌+◌, ◌*◌, ◌<◌, ◌≤◌, ⊤, List, [], ◌∷◌, length, Some, None}
use Rattle.std.specs.Prelude.{slice_index}
use Rattle.cm_types.specs.Types.{Fields}
use Rattle.cm_types.specs.Values.{Val}
use Rattle.cm_abi_model.specs.declared.encoding.StringEncoding.{StringEncoding}
use Rattle.cm_abi_model.specs.declared.request.Request.{Request}
use Rattle.cm_abi_model.specs.Receives.{call_bytes}
use Rattle.cm_abi_model.specs.Requests.{stored_charset}
use Rattle.cm_abi_model.specs.Stores.{Framed, Given}
use Rattle.cm_abi_model.specs.Views.{Way, params, results}
use Rattle.cm_abi_model.specs.Answering.{places_of, regions_of}
use Rattle.cm_abi_model.specs.Overlap.{IsInOne}
use Rattle.cm_machine_model.specs.declared.event.Event.{Event}
use Rattle.cm_machine_model.specs.declared.event.Event.TheVariants as event
use Rattle.cm_machine_model.specs.declared.limits.TheConstants.{MAX_PAGES, PAGE_SIZE}
use Rattle.cm_machine_model.specs.declared.moves.Move.{Move}
use Rattle.cm_machine_model.specs.declared.moves.Move.TheVariants as move
use Rattle.cm_machine_laws.specs.Acting.{acts}
use Rattle.cm_machine_laws.specs.Doing.{Asked, BodyReturn, Doing, LoweredCall, body, doing, handing}
use Rattle.cm_machine_model.specs.History.{Occurrence, begins, moves}
use Rattle.cm_machine_model.specs.Memories.{memory_at}
use Rattle.cm_machine_model.specs.Plan.{Plan, types_of}
use Rattle.cm_machine_model.specs.State.{State}
use Rattle.cm_machine_laws.specs.Told.{WasReturned, WasSent, answers_back, answers_in}
use Rattle.cm_machine_laws.specs.Told.{returned_requests, sent_requests}
use Rattle.cm_machine_laws.specs.Entries.{answered_by}

-- The bytes stand from the address on, and all others are as they were.
pub record WritesExactly (old : List ℕ) (at : ℕ) (bytes new : List ℕ) : Type 0 where
  pub same_length : length new ≡ length old
  pub inside : at + length bytes ≤ length old
  pub stands : (k : ℕ) → k < length bytes → slice_index new (at + k) ≡ slice_index bytes k
  pub before : (a : ℕ) → a < at → slice_index new a ≡ slice_index old a
  pub behind : (a : ℕ) → at + length bytes ≤ a → slice_index new a ≡ slice_index old a

-- There are so many more pages, all zeros, and what was there is as it was.
pub record GrowsExactly (old : List ℕ) (pages : ℕ) (new : List ℕ) : Type 0 where
  pub longer : length new ≡ length old + pages * PAGE_SIZE
  pub most : length old + pages * PAGE_SIZE ≤ MAX_PAGES * PAGE_SIZE
  pub kept : (a : ℕ) → a < length old → slice_index new a ≡ slice_index old a
  pub fresh_zeros : (a : ℕ) → length old ≤ a → slice_index new a ≡ 0

-- The memory had so many whole pages.
abbrev pub HasPages : List ℕ → ℕ → Type 0
HasPages memory pages =
    (pages * PAGE_SIZE ≤ length memory) × (length memory < (pages + 1) * PAGE_SIZE)

-- No memory but this instance's changes.
abbrev pub OthersStay : State → ℕ → State → Type 0
OthersStay old instance new =
    (length new.memories ≡ length old.memories)
    × ((i : ℕ) → i ≢ instance → memory_at new.memories i ≡ memory_at old.memories i)

-- A memory is as it was but inside the regions that were answered to these requests.
pub record ChangesInside (old new : List ℕ) (rs : List Request) (answers : List ℕ) : Type 0 where
  pub same_length : length new ≡ length old
  pub outside : (a : ℕ) → (IsInOne (regions_of rs answers) a → ⊥)
      → slice_index new a ≡ slice_index old a

-- By the bytes of the value alone, each part at its place and strings as the receiver's encoding
-- stores them, a memory is changed: no padding, and nothing beside a chosen payload.
pub record ChangesBytes (old new : List ℕ) (way : Way) (types : Fields) (v : Val)
    (receiver : StringEncoding) (places : List ℕ) : Type 0 where
  pub given : Given
  pub placed : given.places ≡ places
  pub stored_in : given.charset ≡ stored_charset receiver
  pub framed : Framed old new (call_bytes given way types v)

-- What is handed over changes the receiver's memory alone, inside the regions that its allocator
-- answered, and there the bytes of the value alone.
pub record HandsArgs (old : State) (x : LoweredCall) (asked : List Asked) (new : State)
    : Type 0 where
  pub v : Val
  pub sent : WasSent x v
  pub inside : ChangesInside (memory_at old.memories x.link.instance)
      (memory_at new.memories x.link.instance) (sent_requests x v) (answers_in asked)
  pub bytes : ChangesBytes (memory_at old.memories x.link.instance)
      (memory_at new.memories x.link.instance) params (types_of x.link params) v
      x.link.callee.encoding (places_of (sent_requests x v) (answers_in asked))
  pub others : OthersStay old x.link.instance new

-- A result is handed over to the caller, who may have given its place.
pub record HandsResult (old : State) (x : LoweredCall) (r : BodyReturn) (more : List Asked)
    (new : State) : Type 0 where
  pub v : Val
  pub returned : WasReturned x r v
  pub inside : ChangesInside (memory_at old.memories x.caller)
      (memory_at new.memories x.caller) (returned_requests x r v) (answers_back x more)
  pub bytes : ChangesBytes (memory_at old.memories x.caller)
      (memory_at new.memories x.caller) results (types_of x.link results) v
      x.link.caller.encoding (places_of (returned_requests x r v) (answers_back x more))
  pub others : OthersStay old x.caller new

-- no memory changes
abbrev pub SameMemories : State → State → Type 0
SameMemories old new = new.memories ≡ old.memories

-- what an entry changes: the arguments of the call that goes on now
abbrev pub ChangesAtEntry : List Doing → State → State → Type 0
ChangesAtEntry (body x asked ∷ ds) old new = HandsArgs old x asked new
ChangesAtEntry ds old new = SameMemories old new

-- what a return changes that ends a call or hands over to a post-return: the result, unless that
-- was handed over before
abbrev pub ChangesAtEnd : List Doing → BodyReturn → State → State → Type 0
ChangesAtEnd (body x asked ∷ ds) r old new = HandsResult old x r [] new
ChangesAtEnd (handing x asked back more ∷ ds) r old new =
    HandsResult old x back (answered_by r.values more) new
ChangesAtEnd ds r old new = SameMemories old new

-- What becomes of memories by a move with this event, where this went on before and goes on after.
abbrev pub ChangesAsTold : List Doing → List Doing → State → ℕ → Move → Event → State → Type 0
ChangesAsTold ds es old i (move.Write at bytes) event.Done new =
    WritesExactly (memory_at old.memories i) at bytes.items (memory_at new.memories i)
    × OthersStay old i new
ChangesAsTold ds es old i (move.Grow pages) (event.Grown (Some before)) new =
    HasPages (memory_at old.memories i) before
    × GrowsExactly (memory_at old.memories i) pages (memory_at new.memories i)
    × OthersStay old i new
ChangesAsTold ds es old i (move.Grow pages) (event.Grown None) new =
    (MAX_PAGES * PAGE_SIZE < length (memory_at old.memories i) + pages * PAGE_SIZE)
    × (new ≡ old)
ChangesAsTold ds es old i m (event.Enter j func args) new = ChangesAtEntry es old new
ChangesAsTold ds es old i (move.Return values) (event.PostReturn j func args) new =
    ChangesAtEnd ds (record { callee = i; values = values.items; state = old }) old new
ChangesAsTold ds es old i (move.Return values) (event.Resume j back) new =
    ChangesAtEnd ds (record { callee = i; values = values.items; state = old }) old new
ChangesAsTold ds es old i m e new = SameMemories old new

-- Memories change by writes and growths of the acting instance, and where values are handed over.
abbrev pub MemoryChangesByMovesAndValues : Plan → List Occurrence → State → Type 0
MemoryChangesByMovesAndValues plan [] s = ⊤
MemoryChangesByMovesAndValues plan (x ∷ h) s =
    ((i : ℕ) → x.action ≡ begins i → SameMemories x.before x.after)
    × ((m : Move) → x.action ≡ moves m
    → (i : ℕ) × (acts h ≡ Some i)
    × ChangesAsTold (doing plan h) (doing plan (x ∷ h)) x.before i m x.event x.after)
