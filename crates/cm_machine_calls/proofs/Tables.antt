-- The handle tables of a running set, as the rules see them.
use Rattle.std.proofs.Common.{◌≡◌, ℕ, List, Option, refl, sym, ap, ◌∙◌}
use Rattle.std.specs.Prelude.{slice_set, if◌then◌else◌, Bool, false, Some, None}
use Rattle.cm_handles.specs.Handles.{Handles, TableState, no_handles}
use Rattle.cm_abi_model.specs.Scanned.{Scanned}
use Rattle.cm_machine_model.specs.State.{Passage, State, table_at}
use Rattle.cm_machine_parts.specs.States.{handles_in, passage_of, state_of}
use Rattle.cm_machine_parts.specs.declared.state.State.{State as CodedState}
use Rattle.cm_machine_parts.specs.declared.passing.Passing.{Passing}
use Rattle.cm_machine_calls.specs.Lifting.{passage_in}
use Rattle.cm_machine_calls.proofs.Pairs.{set_back}
use Rattle.cm_machine_parts.proofs.Tables.{handles_set}

same_state : (s : State) (ms : List (List ℕ)) (ts : List Handles) (o : Option Passage) → ms ≡ s.memories → ts ≡ s.tables → o ≡ s.passage
    → ◌≡◌ {A = State} (record s { memories = ms; tables = ts; passage = o }) s
same_state s ms ts o memories tables passage =
    ap {B = State} (λ (x : List (List ℕ)). record s { memories = x; tables = ts; passage = o }) memories
    ∙ ap {B = State} (λ (x : List Handles). record s { tables = x; passage = o }) tables
    ∙ ap {B = State} (λ (x : Option Passage). record s { passage = x }) passage

-- nothing is on its way where no value is kept
pub none_when : (p : Passing) → p.scan.has_value ≡ false → passage_of p ≡ None
none_when p none = ap (λ (b : Bool). if b then Some (passage_in p.slots p.scan) else None) none

-- the state is as it was where handles are, and nothing was on its way and nothing is
pub none_lifted : (s : CodedState) (i : ℕ) (t : TableState) (k : Scanned) → t.handles ≡ table_at (handles_in s.tables.items) i → s.passing.scan.has_value ≡ false → k.has_value ≡ false
    → ◌≡◌ {A = State} (record (state_of s) { tables = handles_in (slice_set s.tables.items i t); passage = passage_of (record s.passing { scan = k }) }) (state_of s)
none_lifted s i t k handles idle none =
    same_state (state_of s) s.memories (handles_in (slice_set s.tables.items i t)) (passage_of (record s.passing { scan = k })) refl
    (handles_set s.tables.items i t ∙ ap (slice_set (handles_in s.tables.items) i) handles ∙ set_back (handles_in s.tables.items) i no_handles)
    (none_when (record s.passing { scan = k }) none ∙ sym (none_when s.passing idle))

-- the state is as it was where memories and handles are, and numbers alone may have changed of what
-- is on its way
pub unchanged_by : (s : CodedState) (ms : List (List ℕ)) (i : ℕ) (t : TableState) (k : Scanned) (ns : List ℕ) → ms ≡ s.memories → t.handles ≡ table_at (handles_in s.tables.items) i
    → k ≡ record s.passing.scan { numbers = ns }
    → ◌≡◌ {A = State} (record (state_of s) { memories = ms; tables = handles_in (slice_set s.tables.items i t); passage = passage_of (record s.passing { scan = k }) }) (state_of s)
unchanged_by s ms i t k ns memories handles kept =
    same_state (state_of s) ms (handles_in (slice_set s.tables.items i t)) (passage_of (record s.passing { scan = k })) memories
    (handles_set s.tables.items i t ∙ ap (slice_set (handles_in s.tables.items) i) handles ∙ set_back (handles_in s.tables.items) i no_handles)
    (ap (λ (x : Scanned). passage_of (record s.passing { scan = x })) kept)
