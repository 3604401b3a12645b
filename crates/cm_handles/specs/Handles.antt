-- What a contract sees of a handle table (CanonicalABI.md, "Table State" and "Resource State"; the
-- serial numbers, the limit and what a close does are this project's own choice).
use Rattle.std.specs.Prelude.{◌≡◌, ◌↔◌, ℕ, ◌+◌, ◌-◌, ◌<◌, ◌≤◌, Bool, true, false, ◌==◌, ◌&&◌}
use Rattle.std.specs.Prelude.{if◌then◌else◌, List, [], ◌∷◌, ◌++◌, map, reverse, length, Contains}
use Rattle.std.specs.Prelude.{slice_index_or, slice_set, drop, Option, Some, None, Result, Ok, Err}
use Rattle.std.specs.Option.{option_map}
use Rattle.cm_types.specs.declared.resource.ResourceId.{ResourceId}
use Rattle.cm_handles.specs.declared.table.TheConstants.{MAX_HANDLES}
use Rattle.cm_handles.specs.declared.handle.Handle.{Handle}
use Rattle.cm_handles.specs.declared.handle.HandleKind.{HandleKind}
use Rattle.cm_handles.specs.declared.handle.HandleKind.TheVariants.{Owned, Borrowed}
use Rattle.cm_handles.specs.declared.fault.HandleFault.{HandleFault}
use Rattle.cm_handles.specs.declared.fault.HandleFault.TheVariants as fault

-- The handles of an instance: what stands at each index from 0 on, and the freed indices, the one
-- freed last first. Index 0 is never used, so nothing stands there.
pub record Handles : Type 0 where
  pub slots : List (Option Handle)
  pub freed : List ℕ

-- A table: its handles, and how many more can be added before memory is needed.
pub record TableState : Type 0 where
  pub handles : Handles
  pub room : ℕ

-- The handle at an index, if one stands there.
abbrev pub handle_at : Handles → ℕ → Option Handle
handle_at t index = slice_index_or t.slots index None

-- The index that the next handle gets: the one freed last, else the least that was never used.
abbrev pub next_index : Handles → ℕ
next_index t = slice_index_or t.freed 0 (length t.slots)

-- How many indices are left: those freed, and those never used.
abbrev pub indices_left : Handles → ℕ
indices_left t = length t.freed + (MAX_HANDLES + 1 - length t.slots)

-- The handles of a new instance.
abbrev pub no_handles : Handles
no_handles = record { slots = None ∷ []; freed = [] }

-- An index at which a handle stood, and none stands now.
abbrev pub IsVacant : Handles → ℕ → Type 0
IsVacant t index = (0 < index) × (index < length t.slots) × (handle_at t index ≡ None)

-- No number is in the list twice.
abbrev pub IsDistinct : List ℕ → Type 0
IsDistinct [] = Unit {0}
IsDistinct (x ∷ xs) = (Contains xs x → ⊥) × IsDistinct xs

-- What holds of the handles of every table: nothing stands at index 0, the freed indices are those
-- at which a handle stood and none stands now, each once, and no index is above the greatest.
pub record IsSoundHandles (t : Handles) : Type 0 where
  pub reserved : handle_at t 0 ≡ None
  pub freed : (index : ℕ) → Contains t.freed index ↔ IsVacant t index
  pub once : IsDistinct t.freed
  pub some_slot : 0 < length t.slots
  pub limit : length t.slots ≤ MAX_HANDLES + 1

-- What holds of every table: its handles are sound, a freed index is used again without memory, and
-- there is no room past the indices that are left.
pub record IsSoundTable (s : TableState) : Type 0 where
  pub handles : IsSoundHandles s.handles
  pub freed_room : length s.handles.freed ≤ s.room
  pub room_left : s.room ≤ indices_left s.handles

-- the table has this at the index now, and at each other index what it had there
pub record Changes (old new : Handles) (index : ℕ) (slot : Option Handle) : Type 0 where
  pub here : handle_at new index ≡ slot
  pub others : (other : ℕ) → (other ≡ index → ⊥) → handle_at new other ≡ handle_at old other

-- The handles after one more is added at the next index.
abbrev pub after_add_at : List (Option Handle) → List ℕ → Handle → Handles
after_add_at slots [] handle = record { slots = slots ++ Some handle ∷ []; freed = [] }
after_add_at slots (index ∷ rest) handle =
    record { slots = slice_set slots index (Some handle); freed = rest }

abbrev pub after_add : Handles → Handle → Handles
after_add t handle = after_add_at t.slots t.freed handle

-- The handles after the one at the index goes.
abbrev pub after_release : Handles → ℕ → Handles
after_release t index = record { slots = slice_set t.slots index None; freed = index ∷ t.freed }

-- The handles after one is put back at the index that was freed last.
abbrev pub after_restore : Handles → ℕ → Handle → Handles
after_restore t index handle =
    record { slots = slice_set t.slots index (Some handle); freed = drop 1 t.freed }

-- The handle with this number of lends.
abbrev pub with_lends : ℕ → Handle → Handle
with_lends lends handle = record handle { lends = lends }

-- The handles after the one at the index is changed.
abbrev pub after_change : Handles → ℕ → (Handle → Handle) → Handles
after_change t index change =
    record t { slots = slice_set t.slots index (option_map change (handle_at t index)) }

-- The handles after one more call borrows the one at the index, and after such a call ends.
abbrev pub after_lend : Handles → ℕ → Handles
after_lend t index = after_change t index (λ h. with_lends (h.lends + 1) h)

abbrev pub after_unlend : Handles → ℕ → Handles
after_unlend t index = after_change t index (λ h. with_lends (h.lends - 1) h)

-- Whether a handle is a borrow.
abbrev pub is_borrow : HandleKind → Bool
is_borrow Owned = false
is_borrow (Borrowed call) = true

-- What is left of a slot when its instance closes: an owned handle, no longer lent.
abbrev pub slot_after_close : Option Handle → Option Handle
slot_after_close None = None
slot_after_close (Some h) = if is_borrow h.kind then None else Some (with_lends 0 h)

-- The indices of the borrows among slots, the least first, where the first slot has this index.
abbrev pub borrows_from : ℕ → List (Option Handle) → List ℕ
borrows_from index [] = []
borrows_from index (None ∷ rest) = borrows_from (index + 1) rest
borrows_from index (Some h ∷ rest) =
    if is_borrow h.kind then index ∷ borrows_from (index + 1) rest
    else borrows_from (index + 1) rest

-- The handles after their instance closes: the borrows go one after another, the least index first,
-- and what stays is no longer lent.
abbrev pub after_close : Handles → Handles
after_close t =
    record {
      slots = map slot_after_close t.slots;
      freed = reverse (borrows_from 0 t.slots) ++ t.freed;
    }

-- Whether two resource types are the same.
abbrev pub is_same_resource : ResourceId → ResourceId → Bool
is_same_resource a b = (a.component == b.component) && (a.number == b.number)

-- The answer of a look-up at an index: the handle there, if it is of the resource.
abbrev pub of_resource : Option Handle → ResourceId → Result Handle HandleFault
of_resource None resource = Err fault.NoHandle
of_resource (Some h) resource =
    if is_same_resource h.resource resource then Ok h else Err fault.WrongResource

abbrev pub look_up : Handles → ℕ → ResourceId → Result Handle HandleFault
look_up t index resource = of_resource (handle_at t index) resource

-- The answer, with a refusal of a handle that is lent.
abbrev pub if_not_lent : Result Handle HandleFault → Result Handle HandleFault
if_not_lent (Err e) = Err e
if_not_lent (Ok h) = if h.lends == 0 then Ok h else Err fault.StillLent

-- The answer, with a refusal of a handle that does not own its resource.
abbrev pub if_owned : Result Handle HandleFault → Result Handle HandleFault
if_owned (Err e) = Err e
if_owned (Ok h) = if is_borrow h.kind then Err fault.NotOwned else Ok h
