-- Which bytes are those of a value that is stored (CanonicalABI.md, "Storing"): the bytes of its
-- leaves, which are truth values, numbers, chars, flags, the numbers of cases, handles, and
-- pointers with lengths; and those of its strings and of the elements of its lists. Padding is none
-- of them.
use Rattle.std.specs.Prelude.{◌≡◌, ℕ, zero, suc, ◌+◌, ◌⊎◌, length}
use Rattle.cm_types.specs.Types.{Ty, Fields, Cases, width_bytes, bool, signed, unsigned, char}
use Rattle.cm_types.specs.Types.{string, list, fixed_list, fields, cases, flags, own, borrow}
use Rattle.cm_types.specs.Types.{no_fields, field, no_cases, plain, carrying}
use Rattle.cm_types.specs.Values.{Val, Vals, no_vals, val, truth, signed_number, number, scalar}
use Rattle.cm_types.specs.Values.{text, elements, parts, bare, bearing, flag_set, handle}
use Rattle.cm_layout.specs.Alignment.{align_to}
use Rattle.cm_layout.specs.Sizes.{align_of, size_of, case_count, discriminant_size, flags_size}
use Rattle.cm_layout.specs.Sizes.{payload_offset}
use Rattle.cm_abi_model.specs.Parts.{part_count}
use Rattle.cm_abi_model.specs.Regions.{IsIn}
use Rattle.cm_abi_model.specs.Requests.{text_bytes}
use Rattle.cm_abi_model.specs.Stores.{Given, place_of}

-- an address is one of values in a row, of which each begins so far behind the one before it, the
-- first with the part of this number
abbrev pub IsByteOfEach : (Val → ℕ → ℕ → ℕ → Type 0) → ℕ → Vals → ℕ → ℕ → ℕ → Type 0
IsByteOfEach B size no_vals p k a = ⊥
IsByteOfEach B size (val v vs) p k a =
    B v p k a ⊎ IsByteOfEach B size vs (p + size) (k + part_count v) a

abbrev mutual
  -- an address is a byte of a value of a type that stands at p, with the part of this number first
  pub IsByteOf : Given → Ty → Val → ℕ → ℕ → ℕ → Type 0
  IsByteOf g bool (truth b) p k a = a ≡ p
  IsByteOf g (signed w) (signed_number z) p k a = IsIn p (width_bytes w) a
  IsByteOf g (unsigned w) (number n) p k a = IsIn p (width_bytes w) a
  IsByteOf g char (scalar c) p k a = IsIn p 4 a
  IsByteOf g string (text cs) p k a =
      IsIn p 8 a ⊎ IsIn (place_of g k) (length (text_bytes g.charset cs)) a
  IsByteOf g (list t) (elements vs) p k a =
      IsIn p 8 a ⊎ IsByteOfEach (IsByteOf g t) (size_of t) vs (place_of g k) (k + 1) a
  IsByteOf g (fixed_list t n) (parts vs) p k a =
      IsByteOfEach (IsByteOf g t) (size_of t) vs p k a
  IsByteOf g (fields f fs) (parts vs) p k a = IsByteOfFields g fs vs p 0 k a
  IsByteOf g (cases c cs) (bare i) p k a = IsIn p (discriminant_size (case_count cs)) a
  IsByteOf g (cases c cs) (bearing i v) p k a =
      IsIn p (discriminant_size (case_count cs)) a
      ⊎ IsByteOfPayload g cs i v (p + payload_offset cs) k a
  IsByteOf g (flags ls) (flag_set n) p k a = IsIn p (flags_size (length ls)) a
  IsByteOf g (own r) (handle e) p k a = IsIn p 4 a
  IsByteOf g (borrow r) (handle e) p k a = IsIn p 4 a
  IsByteOf g t v p k a = ⊥

  -- of fields from an address on, where those before them end so far behind it
  pub IsByteOfFields : Given → Fields → Vals → ℕ → ℕ → ℕ → ℕ → Type 0
  IsByteOfFields g no_fields vs p end k a = ⊥
  IsByteOfFields g (field l t fs) no_vals p end k a = ⊥
  IsByteOfFields g (field l t fs) (val v vs) p end k a =
      IsByteOf g t v (p + align_to (align_of t) end) k a
      ⊎ IsByteOfFields g fs vs p (align_to (align_of t) end + size_of t) (k + part_count v) a

  -- of what the case of this number carries
  pub IsByteOfPayload : Given → Cases → ℕ → Val → ℕ → ℕ → ℕ → Type 0
  IsByteOfPayload g no_cases i v p k a = ⊥
  IsByteOfPayload g (plain l cs) zero v p k a = ⊥
  IsByteOfPayload g (plain l cs) (suc i) v p k a = IsByteOfPayload g cs i v p k a
  IsByteOfPayload g (carrying l t cs) zero v p k a = IsByteOf g t v p k a
  IsByteOfPayload g (carrying l t cs) (suc i) v p k a = IsByteOfPayload g cs i v p k a
