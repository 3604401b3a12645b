-- Values in core values, in the standard's words (CanonicalABI.md, "Flattening" and "Flat Lifting",
-- `lift_flat` and `lift_flat_values`).
use Rattle.std.specs.Prelude.{◌≡◌, ℕ, ◌+◌, ◌*◌, ◌^◌, ◌<◌, ◌≤◌, ◌⊎◌, List, length, slice_index_or}
use Rattle.cm_types.specs.declared.core_value.CoreValue.{CoreValue}
use Rattle.cm_types.specs.declared.core_value.CoreValue.TheVariants as core_value
use Rattle.cm_types.specs.Types.{Ty, Fields, fields, tuple_type}
use Rattle.cm_types.specs.Values.{Val, Vals, count_of}
use Rattle.cm_layout.specs.Flattening.{flat_of}
use Rattle.cm_layout.specs.Sizes.{align_of, field_count, field_type, size_of}
use Rattle.cm_abi_model.specs.FlatShows.{FlatShows}
use Rattle.cm_abi_model.specs.Shows.{Shows}
use Rattle.cm_abi_model.specs.Views.{View}
use Rattle.cm_abi_model.specs.Bytes.{bit_of}
use Rattle.cm_abi_model.specs.PartPlaces.{value_at}

-- core value k, from 0, is this number, as an i32 or as an i64
pub record IsCore (slots : List CoreValue) (k n : ℕ) : Type 0 where
  pub there : k < length slots
  pub number : (slice_index_or slots k (core_value.I32 n) ≡ core_value.I32 n)
      ⊎ (slice_index_or slots k (core_value.I64 n) ≡ core_value.I64 n)

-- core value k is this number, of 32 bits
pub record IsCore32 (slots : List CoreValue) (k n : ℕ) : Type 0 where
  pub core : IsCore slots k n
  pub below : n < 2 ^ 32

-- fields are passed one after another, each in as many core values as its type has
pub record AreFirst (fs : Fields) (first : ℕ → ℕ) : Type 0 where
  pub start : first 0 ≡ 0
  pub next : (i : ℕ) → i + 1 < field_count fs
      → first (i + 1) ≡ first i + length (flat_of (field_type fs i))

-- as many values as fields, and field i in the core values from its first one on
pub record AreFieldsIn (w : View) (slots : List CoreValue) (fs : Fields) (first : ℕ → ℕ) (k : ℕ)
    (vs : Vals) : Type 0 where
  pub count : count_of vs ≡ field_count fs
  pub each : (i : ℕ) → i < field_count fs
      → FlatShows w slots (field_type fs i) (k + first i) (value_at vs i)

-- values of one type are passed one after another
pub record ArePassed (w : View) (slots : List CoreValue) (t : Ty) (k : ℕ) (vs : Vals)
    : Type 0 where
  pub each : (i : ℕ) → i < count_of vs
      → FlatShows w slots t (k + i * length (flat_of t)) (value_at vs i)

-- a set of so many labels is the lowest bits of a number
pub record AreLowBits (number count set : ℕ) : Type 0 where
  pub below : set < 2 ^ count
  pub each : (i : ℕ) → i < count → bit_of set i ≡ bit_of number i

-- the values of these types are a tuple in memory, at a pointer, which is a multiple of its
-- alignment; the tuple lies inside the memory
pub record IsTupleAt (w : View) (types : Fields) (pointer : ℕ) (v : Val) : Type 0 where
  pub aligned : (k : ℕ) × (pointer ≡ k * align_of (fields tuple_type types))
  pub inside : pointer + size_of (fields tuple_type types) ≤ length w.memory
  pub shown : Shows w (fields tuple_type types) pointer v
