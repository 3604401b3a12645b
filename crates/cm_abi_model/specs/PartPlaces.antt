-- Where the parts of values stand in memory, in the standard's words (CanonicalABI.md, "Alignment",
-- "Element Size" and "Loading").
use Rattle.std.specs.Prelude.{◌≡◌, ℕ, zero, suc, ◌+◌, ◌*◌, ◌/◌, ◌%◌, ◌^◌, ◌<◌, ◌≤◌, ◌⊎◌}
use Rattle.std.specs.Prelude.{List, length, slice_index, Option, Some, None}
use Rattle.cm_types.specs.declared.resource.ResourceId.{ResourceId}
use Rattle.cm_types.specs.Types.{Ty, Fields, Cases, no_cases, plain, carrying}
use Rattle.cm_types.specs.Values.{Val, Vals, HandleValue, no_vals, val, parts, count_of}
use Rattle.cm_handles.specs.Handles.{Handles, handle_at}
use Rattle.cm_handles.specs.declared.handle.Handle.{Handle}
use Rattle.cm_layout.specs.Alignment.{IsLeastMultiple}
use Rattle.cm_layout.specs.Sizes.{align_of, size_of, field_count, field_type}
use Rattle.cm_abi_model.specs.Shows.{Shows}
use Rattle.cm_abi_model.specs.Views.{View}
use Rattle.cm_abi_model.specs.Bytes.{StandsAt, bit_of}

-- value i of some, from 0
abbrev pub value_at : Vals → ℕ → Val
value_at no_vals i = parts no_vals
value_at (val v vs) zero = v
value_at (val v vs) (suc i) = value_at vs i

-- bit i of the bytes at an address, of which the first 8 are those of the first byte, lowest first
abbrev pub bit_at : List ℕ → ℕ → ℕ → ℕ
bit_at memory at i = bit_of (slice_index memory (at + i / 8)) (i % 8)

-- a set of so many labels is what the bytes at an address say: label i is in it where bit i is set
pub record AreLabels (memory : List ℕ) (at count set : ℕ) : Type 0 where
  pub below : set < 2 ^ count
  pub each : (i : ℕ) → i < count → bit_of set i ≡ bit_at memory at i

-- Offsets of fields: the first is at 0, and each next one at the least multiple of its alignment at
-- which the field before it has ended.
pub record AreOffsets (fs : Fields) (offset : ℕ → ℕ) : Type 0 where
  pub first : offset 0 ≡ 0
  pub next : (i : ℕ) → i + 1 < field_count fs
      → IsLeastMultiple (align_of (field_type fs (i + 1)))
      (offset i + size_of (field_type fs i)) (offset (i + 1))

-- as many values as fields, and field i at its offset
pub record AreFieldsAt (w : View) (fs : Fields) (offset : ℕ → ℕ) (p : ℕ) (vs : Vals) : Type 0 where
  pub count : count_of vs ≡ field_count fs
  pub each : (i : ℕ) → i < field_count fs
      → Shows w (field_type fs i) (p + offset i) (value_at vs i)

-- case i carries a value of this type, or nothing
abbrev pub IsCase : Cases → ℕ → Option Ty → Type 0
IsCase no_cases i carried = ⊥
IsCase (plain l cs) zero carried = carried ≡ None
IsCase (plain l cs) (suc i) carried = IsCase cs i carried
IsCase (carrying l t cs) zero carried = carried ≡ Some t
IsCase (carrying l t cs) (suc i) carried = IsCase cs i carried

-- the greatest alignment of what cases carry; 1 where none carries anything
pub record IsGreatestAlignment (cs : Cases) (a : ℕ) : Type 0 where
  pub above : (i : ℕ) (t : Ty) → IsCase cs i (Some t) → align_of t ≤ a
  pub reached : (a ≡ 1) ⊎ ((i : ℕ) × (t : Ty) × IsCase cs i (Some t) × (a ≡ align_of t))

-- so many values of a type stand in a row, each as far behind the one before it as it has bytes
pub record AreInRow (w : View) (t : Ty) (p : ℕ) (vs : Vals) : Type 0 where
  pub each : (i : ℕ) → i < count_of vs → Shows w t (p + i * size_of t) (value_at vs i)

-- the elements of a list stand at a pointer, which is a multiple of their alignment, in a row
-- inside the memory
pub record AreElements (w : View) (t : Ty) (pointer : ℕ) (vs : Vals) : Type 0 where
  pub aligned : (k : ℕ) × (pointer ≡ k * align_of t)
  pub inside : pointer + count_of vs * size_of t ≤ length w.memory
  pub row : AreInRow w t pointer vs

-- a list is 4 bytes of the pointer to its elements, and behind them 4 bytes of their number
pub record IsListAt (w : View) (t : Ty) (p : ℕ) (vs : Vals) : Type 0 where
  pub pointer : ℕ
  pub pointer_first : StandsAt w.memory p 4 pointer
  pub length_behind : StandsAt w.memory (p + 4) 4 (count_of vs)
  pub elements : AreElements w t pointer vs

-- an index has a handle to a resource, and a value is what the handle stands for
pub record IsHandle (table : Handles) (index : ℕ) (r : ResourceId) (entry : Handle)
    (h : HandleValue) : Type 0 where
  pub found : handle_at table index ≡ Some entry
  pub of_resource : entry.resource ≡ r
  pub same_serial : h.serial ≡ entry.serial
  pub same_rep : h.rep ≡ entry.rep
  pub same_resource : h.resource ≡ r
