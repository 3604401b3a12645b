-- A resource is made (CanonicalABI.md, `canon resource.new`).
use Rattle.std.specs.Prelude.{◌≡◌, ℕ, ◌<◌, ◌++◌, ◌⊎◌, List, [], ◌∷◌, length, Result, Ok, Err}
use Rattle.cm_types.specs.declared.resource.ResourceId.{ResourceId}
use Rattle.cm_handles.specs.declared.handle.Handle.{Handle}
use Rattle.cm_handles.specs.declared.handle.HandleKind.TheVariants as kind
use Rattle.cm_handles.specs.Handles.{Handles, after_add, indices_left, next_index}
use Rattle.cm_machine_model.specs.declared.event.Trap.{Trap}
use Rattle.cm_machine_model.specs.declared.event.Trap.TheVariants as trap
use Rattle.cm_machine_model.specs.declared.frame.Place.{Place}
use Rattle.cm_machine_model.specs.declared.frame.Place.TheVariants as place
use Rattle.cm_machine_model.specs.Step.{MAX_SERIALS}

-- the handle of a resource that was just made: owned, and lent to nobody
abbrev pub new_handle : ResourceId → ℕ → ℕ → Handle
new_handle r serial rep =
    record { resource = r; serial = serial; lends = 0; rep = rep; kind = kind.Owned }

-- a serial number is left, and an index
abbrev pub HasRoomFor : Handles → List Place → Type 0
HasRoomFor table owners = (length owners < MAX_SERIALS) × (0 < indices_left table)

-- nothing was made: no number was left, or no memory
abbrev pub MakesNone : Handles → List Place → Trap → Type 0
MakesNone table owners t =
    ((HasRoomFor table owners → ⊥) × (t ≡ trap.TableFull))
    ⊎ (HasRoomFor table owners × (t ≡ trap.EngineMemory))

-- What making a resource answers, and what it leaves of the table and of the owners.
abbrev pub AddsResource : Handles → List Place → ℕ → ResourceId → ℕ → Result ℕ Trap → Handles
    → List Place → Type 0
AddsResource table owners i r rep (Ok index) table_after owners_after =
    HasRoomFor table owners × (index ≡ next_index table)
    × (table_after ≡ after_add table (new_handle r (length owners) rep))
    × (owners_after ≡ owners ++ place.InTable i index ∷ [])
AddsResource table owners i r rep (Err t) table_after owners_after =
    MakesNone table owners t × (table_after ≡ table) × (owners_after ≡ owners)
