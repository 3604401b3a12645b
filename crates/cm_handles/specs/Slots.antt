-- How a table lays out its slots. No public clause cites this module.
use Rattle.std.specs.Prelude.{◌≡◌, ℕ, zero, suc, ◌+◌, ◌-◌, ◌<◌, min, Bool, true, false, List, []}
use Rattle.std.specs.Prelude.{◌∷◌, map, length, count_by, slice_index_or, slice_get, slice_set}
use Rattle.std.specs.Prelude.{if◌then◌else◌, Option, Some, None}
use Rattle.cm_handles.specs.declared.table.TheConstants.{MAX_HANDLES}
use Rattle.cm_handles.specs.Handles.{Handles, IsSoundHandles, after_release, is_borrow}
use Rattle.cm_handles.specs.Handles.{with_lends}
use Rattle.cm_handles.specs.declared.handle.Handle.{Handle}
use Rattle.cm_handles.specs.declared.slot.Slot.{Slot}
use Rattle.cm_handles.specs.declared.slot.Slot.TheVariants as slot
use Rattle.cm_handles.specs.declared.handle.HandleKind.TheVariants as kind

-- The handle of a slot, if it has one.
abbrev pub handle_in : Slot → Option Handle
handle_in (slot.Free next) = None
handle_in (slot.Owned serial lends resource rep) =
    Some (record
    { resource = resource; serial = serial; lends = lends; rep = rep; kind = kind.Owned })
handle_in (slot.Borrowed call serial lends resource rep) =
    Some (record {
      resource = resource;
      serial = serial;
      lends = lends;
      rep = rep;
      kind = kind.Borrowed call;
    })

abbrev pub is_free : Slot → Bool
is_free (slot.Free next) = true
is_free (slot.Owned serial lends resource rep) = false
is_free (slot.Borrowed call serial lends resource rep) = false

-- The index that an empty slot holds.
abbrev pub next_of : Slot → ℕ
next_of (slot.Free next) = next
next_of (slot.Owned serial lends resource rep) = 0
next_of (slot.Borrowed call serial lends resource rep) = 0

-- The indices that n slots hold one after another, from the first index on; the slot of index k is
-- the one at k - 1.
unfoldable pub thread : ℕ → List Slot → ℕ → List ℕ
thread zero es index = []
thread (suc n) es index =
    index ∷ thread n es (next_of (slice_index_or es (index - 1) (slot.Free 0)))

-- These are the slots from the index on, each of them empty, as each holds the index of the next.
abbrev pub Threads : List Slot → ℕ → List ℕ → Type 0
Threads es index [] = Unit {0}
Threads es index (f ∷ fs) =
    (index ≡ f) × (0 < f) × (next : ℕ) × (slice_get es (f - 1) ≡ Some (slot.Free next))
    × Threads es next fs

-- The handles of these slots, of which so many are empty, the one freed last at the first index.
abbrev pub handles_of : List Slot → ℕ → ℕ → Handles
handles_of es first free = record { slots = None ∷ map handle_in es; freed = thread free es first }

-- How many more handles such a table takes without memory, where its memory is for so many slots.
abbrev pub room_of : List Slot → ℕ → ℕ → ℕ
room_of es free capacity = free + (min MAX_HANDLES capacity - length es)

-- The empty slots are threaded, and all of them are counted.
pub record IsThreaded (es : List Slot) (first free : ℕ) : Type 0 where
  pub threads : Threads es first (thread free es first)
  pub counted : free ≡ count_by is_free es
  pub sound : IsSoundHandles (handles_of es first free)

-- The handles after what stands at one index is closed: a borrow goes, and an owned handle is no
-- longer lent.
abbrev pub after_close_at : Handles → ℕ → Option Handle → Handles
after_close_at t index None = t
after_close_at t index (Some h) =
    if is_borrow h.kind then after_release t index
    else record t { slots = slice_set t.slots index (Some (with_lends 0 h)) }
