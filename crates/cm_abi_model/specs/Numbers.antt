-- Numbers in memory and in core values (CanonicalABI.md, "Loading" and "Flattening").
use Rattle.std.specs.Prelude.{ℕ, zero, suc, ℤ, pos, neg_ℤ, ◌+◌, ◌*◌, ◌-◌, ◌%◌, ◌^◌, List}
use Rattle.std.specs.Prelude.{slice_index, slice_index_or, nat_lt, if◌then◌else◌}
use Rattle.cm_types.specs.declared.core_value.CoreValue.{CoreValue}
use Rattle.cm_types.specs.declared.core_value.CoreValue.TheVariants as core_value

-- the number of so many bytes at an address, little end first
unfoldable pub number_at : ℕ → List ℕ → ℕ → ℕ
number_at zero memory at = 0
number_at (suc n) memory at = slice_index memory at + 256 * number_at n memory (at + 1)

-- a number without sign read as two's complement of so many bytes
abbrev pub as_signed : ℕ → ℕ → ℤ
as_signed bytes n =
    if nat_lt n (2 ^ (8 * bytes - 1)) then pos n else neg_ℤ (pos (2 ^ (8 * bytes) - n))

-- the number of a core value, whatever its kind
abbrev pub slot_number : CoreValue → ℕ
slot_number (core_value.I32 n) = n
slot_number (core_value.I64 n) = n

-- the number in a slot, and 0 where there is none
abbrev pub slot_at : List CoreValue → ℕ → ℕ
slot_at slots k = slot_number (slice_index_or slots k (core_value.I32 0))

-- the number in a slot, wanted in so many bytes: an i64 slot may hold what is wanted as an i32
abbrev pub wrapped_at : ℕ → List CoreValue → ℕ → ℕ
wrapped_at bytes slots k = slot_at slots k % 2 ^ (8 * bytes)
