-- Sizes and alignments of values in memory, in bytes (CanonicalABI.md, "Alignment" and "Element
-- Size").
use Rattle.std.specs.Prelude.{◌≡◌, ℕ, zero, suc, ◌+◌, ◌*◌, ◌<◌, ◌≤◌, ◌⊎◌, ⊤, max, nat_le}
use Rattle.std.specs.Prelude.{if◌then◌else◌, length}
use Rattle.std.specs.Prelude.{Option, Some, None}
use Rattle.cm_types.specs.Types.{Ty, Fields, Cases, width_bytes, bool, signed, unsigned, char}
use Rattle.cm_types.specs.Types.{string}
use Rattle.cm_types.specs.Types.{list, fixed_list, fields, cases, flags, own, borrow, no_fields}
use Rattle.cm_types.specs.Types.{field, no_cases, plain, carrying}
use Rattle.cm_layout.specs.Alignment.{IsLeastMultiple, align_to}

-- how many cases a type has
abbrev pub case_count : Cases → ℕ
case_count no_cases = 0
case_count (plain l cs) = suc (case_count cs)
case_count (carrying l t cs) = suc (case_count cs)

-- the size of the number of a case, which is its alignment too
abbrev pub discriminant_size : ℕ → ℕ
discriminant_size n = if nat_le n 256 then 1 else if nat_le n 65536 then 2 else 4

-- the size of a set of labels, which is its alignment too (`elem_size_flags`)
abbrev pub flags_size : ℕ → ℕ
flags_size n = if nat_le n 8 then 1 else if nat_le n 16 then 2 else 4

abbrev mutual
  -- the alignment of a type (`alignment`)
  pub align_of : Ty → ℕ
  align_of bool = 1
  align_of (signed w) = width_bytes w
  align_of (unsigned w) = width_bytes w
  align_of char = 4
  align_of string = 4
  align_of (list t) = 4
  align_of (fixed_list t n) = align_of t
  align_of (fields k fs) = align_of_fields fs
  align_of (cases k cs) = max (discriminant_size (case_count cs)) (align_of_payloads cs)
  align_of (flags ls) = flags_size (length ls)
  align_of (own r) = 4
  align_of (borrow r) = 4

  -- the greatest alignment of fields
  pub align_of_fields : Fields → ℕ
  align_of_fields no_fields = 1
  align_of_fields (field l t fs) = max (align_of t) (align_of_fields fs)

  -- the greatest alignment of payloads
  pub align_of_payloads : Cases → ℕ
  align_of_payloads no_cases = 1
  align_of_payloads (plain l cs) = align_of_payloads cs
  align_of_payloads (carrying l t cs) = max (align_of t) (align_of_payloads cs)

-- where the payload of a variant stands
abbrev pub payload_offset : Cases → ℕ
payload_offset cs = align_to (align_of_payloads cs) (discriminant_size (case_count cs))

abbrev mutual
  -- the size of a type (`elem_size`)
  pub size_of : Ty → ℕ
  size_of bool = 1
  size_of (signed w) = width_bytes w
  size_of (unsigned w) = width_bytes w
  size_of char = 4
  size_of string = 8
  size_of (list t) = 8
  size_of (fixed_list t n) = n * size_of t
  size_of (fields k fs) = align_to (align_of_fields fs) (end_of fs 0)
  size_of (cases k cs) = align_to (align_of (cases k cs)) (payload_offset cs + greatest_payload cs)
  size_of (flags ls) = flags_size (length ls)
  size_of (own r) = 4
  size_of (borrow r) = 4

  -- where fields end, if the field before them ends here: each stands at the least multiple of its
  -- alignment
  pub end_of : Fields → ℕ → ℕ
  end_of no_fields at = at
  end_of (field l t fs) at = end_of fs (align_to (align_of t) at + size_of t)

  -- the size of the greatest payload
  pub greatest_payload : Cases → ℕ
  greatest_payload no_cases = 0
  greatest_payload (plain l cs) = greatest_payload cs
  greatest_payload (carrying l t cs) = max (size_of t) (greatest_payload cs)

-- where field n stands, if the field before these ends here
abbrev pub field_offset_from : Fields → ℕ → ℕ → ℕ
field_offset_from no_fields at n = at
field_offset_from (field l t fs) at zero = align_to (align_of t) at
field_offset_from (field l t fs) at (suc n) =
    field_offset_from fs (align_to (align_of t) at + size_of t) n

-- how many fields a record or a tuple has
abbrev pub field_count : Fields → ℕ
field_count no_fields = 0
field_count (field l t fs) = suc (field_count fs)

-- the alignment and the size of what one case may carry
abbrev pub align_of_payload : Option Ty → ℕ
align_of_payload None = 1
align_of_payload (Some t) = align_of t

abbrev pub size_of_payload : Option Ty → ℕ
size_of_payload None = 0
size_of_payload (Some t) = size_of t

-- the type of field n
abbrev pub field_type : Fields → ℕ → Ty
field_type no_fields n = bool
field_type (field l t fs) zero = t
field_type (field l t fs) (suc n) = field_type fs n

-- where what stands before field n ends, if the field before all ends here
abbrev pub end_before : Fields → ℕ → ℕ → ℕ
end_before fs at zero = at
end_before fs at (suc n) = field_offset_from fs at n + size_of (field_type fs n)

-- ---- what can be asked of a type

-- the type is a record or a tuple with field n
abbrev pub HasField : Ty → ℕ → Type 0
HasField (fields k fs) n = n < field_count fs
HasField _ n = ⊥

-- where field n stands in a record or a tuple
abbrev pub field_offset : Ty → ℕ → ℕ
field_offset (fields k fs) n = field_offset_from fs 0 n
field_offset _ n = 0

-- the fields of a record or a tuple
abbrev pub fields_in : Ty → Fields
fields_in (fields k fs) = fs
fields_in _ = no_fields

-- the type is a variant, an enum, an option or a result
abbrev pub HasCases : Ty → Type 0
HasCases (cases k cs) = ⊤
HasCases _ = ⊥

-- the size of the number of a case in such a type
abbrev pub discriminant_size_of : Ty → ℕ
discriminant_size_of (cases k cs) = discriminant_size (case_count cs)
discriminant_size_of _ = 0

-- where the payload stands in a type that has cases
abbrev pub case_offset : Ty → ℕ
case_offset (cases k cs) = payload_offset cs
case_offset _ = 0

-- the payload stands at the least multiple of the payloads' alignment behind the number of the case
abbrev pub IsPayloadOffset : Ty → ℕ → Type 0
IsPayloadOffset (cases k cs) at =
    IsLeastMultiple (align_of_payloads cs) (discriminant_size (case_count cs)) at
IsPayloadOffset _ at = ⊥

-- the size of what has fields or cases is the least multiple of its alignment that is not below the
-- end of the last field, or of the greatest payload
abbrev pub IsWholeSize : Ty → ℕ → Type 0
IsWholeSize (fields k fs) n = IsLeastMultiple (align_of_fields fs) (end_of fs 0) n
IsWholeSize (cases k cs) n =
    IsLeastMultiple (align_of (cases k cs)) (payload_offset cs + greatest_payload cs) n
IsWholeSize _ n = ⊤

-- the least of 1, 2 and 4 bytes of which something holds
pub record IsLeastBytes (holds : ℕ → Type 0) (bytes : ℕ) : Type 0 where
  pub one_of : (bytes ≡ 1) ⊎ (bytes ≡ 2) ⊎ (bytes ≡ 4)
  pub enough : holds bytes
  pub least : (b : ℕ) → (b ≡ 1) ⊎ (b ≡ 2) ⊎ (b ≡ 4) → holds b → bytes ≤ b
