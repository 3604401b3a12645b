-- The state of a linked set while it runs (CanonicalABI.md, "Component Instance State", "Table
-- State" and "Resource State"; serial numbers, lends in one list, closed instances and what a trap
-- leaves are this project's own choice).
use Rattle.std.specs.Prelude.{ℕ, Bool, true, false, List, [], ◌∷◌, ◌==◌, not, map}
use Rattle.std.specs.Prelude.{filter}
use Rattle.std.specs.Prelude.{Option, None, slice_get, slice_set, unwrap_or, nat_le, ◌&&◌}
use Rattle.std.specs.Prelude.{length, replicate, ◌*◌, if◌then◌else◌}
use Rattle.std.specs.List.{list_all}
use Rattle.cm_types.specs.declared.core_value.CoreValue.{CoreValue}
use Rattle.cm_types.specs.Values.{HandleValue}
use Rattle.cm_handles.specs.Handles.{Handles, no_handles, after_close, after_unlend}
use Rattle.cm_abi_model.specs.declared.encoding.StringEncoding.{StringEncoding}
use Rattle.cm_abi_model.specs.Receives.{HandleLeaf}
use Rattle.cm_abi_model.specs.Views.{View}
use Rattle.cm_abi_model.specs.declared.record.PartRecord.{PartRecord}
use Rattle.cm_machine_model.specs.declared.frame.Frame.{Frame}
use Rattle.cm_machine_model.specs.declared.frame.Lend.{Lend}
use Rattle.cm_machine_model.specs.declared.frame.Place.{Place}
use Rattle.cm_machine_model.specs.declared.frame.Place.TheVariants as place
use Rattle.cm_machine_model.specs.declared.limits.TheConstants.{MAX_PAGES, PAGE_SIZE}
use Rattle.cm_machine_model.specs.Memories.{memory_at}

-- What is on its way in the topmost call: the core values that were scanned; a record of each part
-- of the value that they denote, the place of each part that has all of its answers, how many
-- requests are answered and the answer that came last; the handles of the value. The value itself
-- is nowhere: it stands in the giver's memory.
pub record Passage : Type 0 where
  pub slots : List CoreValue
  pub records : List PartRecord
  pub places : List ℕ
  pub answered : ℕ
  pub last : ℕ
  pub leaves : List HandleLeaf

-- Each instance's memory, handle table, and whether it is closed; where each resource that was made
-- is, by its serial number, so that the next serial number is their count; the handles that are
-- lent, the oldest first; the frames, the top first; what is on its way in the call on top.
pub record State : Type 0 where
  pub memories : List (List ℕ)
  pub tables : List Handles
  pub owners : List Place
  pub lends : List Lend
  pub closed : List Bool
  pub stack : List Frame
  pub passage : Option Passage

-- an instance's handles, none where there is no such instance
abbrev pub table_at : List Handles → ℕ → Handles
table_at tables instance = unwrap_or (slice_get tables instance) no_handles

-- whether an instance is closed
abbrev pub is_closed : State → ℕ → Bool
is_closed s instance = unwrap_or (slice_get s.closed instance) false

-- what an instance sees, of strings in this encoding, in the call with this number
abbrev pub view_of : State → ℕ → StringEncoding → ℕ → View
view_of s instance encoding call = record {
  memory = memory_at s.memories instance;
  table = table_at s.tables instance;
  instance = instance;
  encoding = encoding;
  call = call;
}

-- ---- resources

-- the resources of these handles are in this place
abbrev pub with_places : Place → List HandleValue → List Place → List Place
with_places p [] owners = owners
with_places p (h ∷ hs) owners = with_places p hs (slice_set owners h.serial p)

-- ---- lends

-- the indices of this instance's table that are lent to the call of a frame
abbrev pub lends_to : ℕ → ℕ → List ℕ → List Lend
lends_to frame instance [] = []
lends_to frame instance (index ∷ indices) =
    record { frame = frame; instance = instance; index = index } ∷ lends_to frame instance indices

-- the handle tables once one lend has ended
abbrev pub tables_after_unlend : Lend → List Handles → List Handles
tables_after_unlend l tables =
    slice_set tables l.instance (after_unlend (table_at tables l.instance) l.index)

-- the handle tables once the lends to the call of this frame have ended
abbrev pub tables_after_call : ℕ → List Lend → List Handles → List Handles
tables_after_call frame [] tables = tables
tables_after_call frame (l ∷ ls) tables =
    tables_after_call frame ls
    (if l.frame == frame then tables_after_unlend l tables else tables)

-- the lends that are left then
abbrev pub lends_after_call : ℕ → List Lend → List Lend
lends_after_call frame lends = filter (λ l. not (l.frame == frame)) lends

-- ---- traps

-- a trap leaves what was on its way with nobody
abbrev pub place_after_trap : Place → Place
place_after_trap (place.InTable instance index) = place.InTable instance index
place_after_trap (place.Travelling frame) = place.Abandoned
place_after_trap place.Abandoned = place.Abandoned
place_after_trap place.Dropped = place.Dropped

-- the instances of these frames are closed, and those that were
abbrev pub closed_after_trap : List Frame → List Bool → List Bool
closed_after_trap [] closed = closed
closed_after_trap (f ∷ fs) closed = closed_after_trap fs (slice_set closed f.instance true)

-- The handle tables of the instances of these frames lose their borrows, and nothing in them is
-- lent.
abbrev pub tables_after_trap : List Frame → List Handles → List Handles
tables_after_trap [] tables = tables
tables_after_trap (f ∷ fs) tables =
    tables_after_trap fs (slice_set tables f.instance (after_close (table_at tables f.instance)))

-- The state that a trap leaves: the stack is empty and its instances are closed, what was on its
-- way is lost, and nothing is lent; memories and owned handles stay.
abbrev pub after_trap : State → State
after_trap s = record {
  memories = s.memories;
  tables = tables_after_trap s.stack s.tables;
  owners = map place_after_trap s.owners;
  lends = [];
  closed = closed_after_trap s.stack s.closed;
  stack = [];
  passage = None;
}

-- ---- before anything ran

-- one number of pages for each instance, none above the most
abbrev pub are_page_counts : ℕ → List ℕ → Bool
are_page_counts count pages = (length pages == count) && list_all (λ p. nat_le p MAX_PAGES) pages

-- a memory of so many pages of zeros
abbrev pub zeros : ℕ → List ℕ
zeros pages = replicate (pages * PAGE_SIZE) 0

-- So many instances have memories of zeros; no instance has a handle, no resource was made, nothing
-- is lent, no instance is closed, and no frame stands.
abbrev pub fresh_state : ℕ → List ℕ → State
fresh_state count pages = record {
  memories = map zeros pages;
  tables = replicate count no_handles;
  owners = [];
  lends = [];
  closed = replicate count false;
  stack = [];
  passage = None;
}
