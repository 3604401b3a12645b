-- Plain bytes: types whose values may be copied as the bytes that they are in memory (this
-- project's own term; CanonicalABI.md, "Loading", says what each byte is).
use Rattle.std.specs.Prelude.{ℕ, ◌+◌, ◌*◌, ◌==◌, Bool}
use Rattle.cm_types.specs.Types.{Ty, Fields, width_bytes, signed, unsigned, fixed_list, fields}
use Rattle.cm_types.specs.Types.{no_fields, field}
use Rattle.cm_layout.specs.Sizes.{size_of}

abbrev mutual
  -- how many bytes of a value are bytes of a number in it, of one of the types s8 to s64 and u8 to
  -- u64: none of a truth value, a char, a set of flags, the number of a case, a handle or a pointer
  -- is, and none of padding
  pub number_bytes : Ty → ℕ
  number_bytes (signed w) = width_bytes w
  number_bytes (unsigned w) = width_bytes w
  number_bytes (fixed_list t n) = n * number_bytes t
  number_bytes (fields k fs) = number_bytes_of_fields fs
  number_bytes _ = 0

  pub number_bytes_of_fields : Fields → ℕ
  number_bytes_of_fields no_fields = 0
  number_bytes_of_fields (field l t fs) = number_bytes t + number_bytes_of_fields fs

-- a type is plain bytes if each byte of its values is one of a number
abbrev pub is_bulk : Ty → Bool
is_bulk t = number_bytes t == size_of t
