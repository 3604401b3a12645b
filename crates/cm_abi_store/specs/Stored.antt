-- What storing a value does to a memory, and lowering it flat to slots as well (CanonicalABI.md,
-- "Storing" and "Flat Lowering").
use Rattle.std.specs.Prelude.{◌≡◌, ℕ, ◌+◌, List, length, map, Option}
use Rattle.cm_types.specs.Values.{Val, Vals}
use Rattle.cm_layout.specs.Layouts.{nothings, part_of, payload_of}
use Rattle.cm_layout.specs.Shapes.{LayoutTy, Shape, Parts, list_shape, fixed_list_shape}
use Rattle.cm_layout.specs.Shapes.{fields_shape, cases_shape, parts_from, payloads_from}
use Rattle.cm_layout.specs.declared.layouts.Part.{Part}
use Rattle.cm_layout.specs.declared.layouts.Payload.{Payload}
use Rattle.cm_abi_model.specs.Parts.{handle_count, handle_count_each, part_count, part_count_each}
use Rattle.cm_abi_model.specs.Receives.{behind_each}
use Rattle.cm_abi_model.specs.Stores.{Given, Placed, poke, store_each}
use Rattle.cm_abi_store.specs.FlatLowering.{behind_by, behind_by_fields, slots_by, slots_by_fields}
use Rattle.cm_abi_store.specs.Sources.{carried_behind, carried_bytes, carried_slots}
use Rattle.cm_abi_store.specs.Storing.{stored_by, stored_by_fields}
use Rattle.cm_abi_store.specs.declared.target.Next.{Next}

-- ---- the shapes of what a layout of the code holds

-- a list of elements, and one of so many
abbrev pub list_of : LayoutTy → Shape
list_of l = list_shape l.head l.shape

abbrev pub fixed_list_of : LayoutTy → ℕ → Shape
fixed_list_of l count = fixed_list_shape l.head l.shape count

-- the fields of a record or a tuple, and it itself
abbrev pub fields_of : List Part → Parts
fields_of ps = parts_from (map part_of ps)

abbrev pub record_of : List Part → Shape
record_of ps = fields_shape (fields_of ps)

-- cases whose discriminant takes so many bytes and whose payloads stand so far behind it
abbrev pub cases_of : ℕ → ℕ → List Payload → Shape
cases_of discriminant offset ps =
    cases_shape discriminant offset (payloads_from (map payload_of ps))

-- so many cases that carry nothing
abbrev pub enum_of : ℕ → ℕ → Shape
enum_of discriminant count = cases_shape discriminant discriminant (nothings count)

-- ---- storing

-- These bytes, of so many parts and so many handles, were stored.
pub record WritesBytes (bytes : List Placed) (parts handles : ℕ) (next after : Next)
    (old_memory new_memory : List ℕ) : Type 0 where
  -- each of the bytes stands at its address, and each other byte is what it was
  pub stored : new_memory ≡ poke bytes old_memory
  -- the memory is as long as it was
  pub stays : length new_memory ≡ length old_memory
  -- the part that is stored next is the one behind these parts
  pub part : after.part ≡ next.part + parts
  -- the handle that is stored next is the one behind these handles
  pub handle : after.handle ≡ next.handle + handles

-- A value of this shape was stored at an address: the standard's `store`.
abbrev pub StoresValue :
    Given → Shape → Val → ℕ → Next → List ℕ → Next → List ℕ → Type 0
StoresValue g s v at next old_memory after new_memory =
    WritesBytes (stored_by g s v at next.part next.handle) (part_count v) (handle_count v)
    next after old_memory new_memory

-- values of one layout were, one behind the other from an address on
abbrev pub StoresElements :
    Given → LayoutTy → Vals → ℕ → Next → List ℕ → Next → List ℕ → Type 0
StoresElements g l vs at next old_memory after new_memory =
    WritesBytes (store_each (stored_by g l.shape) l.head.size vs at next.part next.handle)
    (part_count_each vs) (handle_count_each vs) next after old_memory new_memory

-- fields were, each at its offset behind an address
abbrev pub StoresFields :
    Given → Parts → Vals → ℕ → Next → List ℕ → Next → List ℕ → Type 0
StoresFields g ps vs at next old_memory after new_memory =
    WritesBytes (stored_by_fields g ps vs at next.part next.handle)
    (part_count_each vs) (handle_count_each vs) next after old_memory new_memory

-- what a case carries, if anything, was, at an address
abbrev pub StoresPayload :
    Given → Option LayoutTy → Val → ℕ → Next → List ℕ → Next → List ℕ → Type 0
StoresPayload g payload v at next old_memory after new_memory =
    WritesBytes (carried_bytes g payload v at next.part next.handle)
    (part_count v) (handle_count v) next after old_memory new_memory

-- ---- lowering flat

-- These numbers, of so many parts and so many handles, were put into slots, and these bytes behind
-- them were stored.
pub record PassesNumbers (numbers bytes : List Placed) (parts handles : ℕ) (next after : Next)
    (old_slots new_slots old_memory new_memory : List ℕ) : Type 0 where
  -- each of the numbers is in its slot, and each other slot holds what it held
  pub slots : new_slots ≡ poke numbers old_slots
  -- each of the bytes stands at its address, and each other byte is what it was
  pub stored : new_memory ≡ poke bytes old_memory
  -- the memory is as long as it was
  pub stays : length new_memory ≡ length old_memory
  -- there are as many slots as there were
  pub slots_stay : length new_slots ≡ length old_slots
  -- the part that is stored next is the one behind these parts
  pub part : after.part ≡ next.part + parts
  -- the handle that is passed next is the one behind these handles
  pub handle : after.handle ≡ next.handle + handles

-- A value of this shape was lowered flat into slots from this one on: the standard's `lower_flat`.
abbrev pub LowersFlat : Given → Shape → Val → ℕ
    → Next → List ℕ → List ℕ → Next → List ℕ → List ℕ → Type 0
LowersFlat g s v at next old_slots old_memory after new_slots new_memory =
    PassesNumbers (slots_by g s v at next.part next.handle) (behind_by g s v next.part next.handle)
    (part_count v) (handle_count v) next after old_slots new_slots old_memory new_memory

-- values of one layout were, one behind the other
abbrev pub LowersElementsFlat : Given → LayoutTy → Vals → ℕ
    → Next → List ℕ → List ℕ → Next → List ℕ → List ℕ → Type 0
LowersElementsFlat g l vs at next old_slots old_memory after new_slots new_memory =
    PassesNumbers (store_each (slots_by g l.shape) l.head.width vs at next.part next.handle)
    (behind_each (behind_by g l.shape) vs next.part next.handle)
    (part_count_each vs) (handle_count_each vs) next after old_slots new_slots old_memory new_memory

-- fields were, one behind the other
abbrev pub LowersFieldsFlat : Given → Parts → Vals → ℕ
    → Next → List ℕ → List ℕ → Next → List ℕ → List ℕ → Type 0
LowersFieldsFlat g ps vs at next old_slots old_memory after new_slots new_memory =
    PassesNumbers (slots_by_fields g ps vs at next.part next.handle)
    (behind_by_fields g ps vs next.part next.handle)
    (part_count_each vs) (handle_count_each vs) next after old_slots new_slots old_memory new_memory

-- what a case carries, if anything, was
abbrev pub LowersPayloadFlat : Given → Option LayoutTy → Val → ℕ
    → Next → List ℕ → List ℕ → Next → List ℕ → List ℕ → Type 0
LowersPayloadFlat g payload v at next old_slots old_memory after new_slots new_memory =
    PassesNumbers (carried_slots g payload v at next.part next.handle)
    (carried_behind g payload v next.part next.handle)
    (part_count v) (handle_count v) next after old_slots new_slots old_memory new_memory
