-- What a lowering stores (CanonicalABI.md, "Storing" and "Lowering"): each byte at its address, and
-- no other. Of the values that a type could be read from it stores the least: a bool as 0 or 1, no
-- bit beside the labels of flags, nothing in the room beside a chosen payload, and no padding.
use Rattle.std.specs.Prelude.{◌≡◌, ℕ, zero, suc, ℤ, pos, negsuc, ◌+◌, ◌*◌, ◌-◌, ◌/◌, ◌%◌, ◌^◌}
use Rattle.std.specs.Prelude.{⊤, if◌then◌else◌, List, [], ◌∷◌, ◌++◌, length}
use Rattle.std.specs.Prelude.{slice_index, slice_set}
use Rattle.cm_types.specs.Types.{Ty, Fields, Cases, width_bytes, bool, signed, unsigned, char}
use Rattle.cm_types.specs.Types.{string, list, fixed_list, fields, cases, flags, own, borrow}
use Rattle.cm_types.specs.Types.{no_fields, field, no_cases, plain, carrying}
use Rattle.cm_types.specs.Values.{Val, Vals, no_vals, val, truth, signed_number, number, scalar}
use Rattle.cm_types.specs.Values.{text, elements, parts, bare, bearing, flag_set, handle, count_of}
use Rattle.cm_layout.specs.Alignment.{align_to}
use Rattle.cm_layout.specs.Sizes.{align_of, size_of, case_count, discriminant_size, flags_size}
use Rattle.cm_layout.specs.Sizes.{payload_offset}
use Rattle.cm_abi_model.specs.Texts.{Charset}
use Rattle.cm_abi_model.specs.Parts.{part_count, handle_count}
use Rattle.cm_abi_model.specs.Requests.{text_bytes, text_units}

-- an address with a byte
abbrev pub Placed : Type 0
Placed = ℕ × ℕ

-- bytes from an address on
abbrev pub placed : ℕ → List ℕ → List Placed
placed at [] = []
placed at (b ∷ bs) = (at, b) ∷ placed (at + 1) bs

-- the bytes of a number, little end first
unfoldable pub bytes_of : ℕ → ℕ → List ℕ
bytes_of zero n = []
bytes_of (suc k) n = n % 256 ∷ bytes_of k (n / 256)

-- a number in two's complement of so many bytes
abbrev pub from_signed : ℕ → ℤ → ℕ
from_signed bytes (pos n) = n
from_signed bytes (negsuc n) = 2 ^ (8 * bytes) - (n + 1)

-- What a lowering was given: where each part stands, in reading order, which is the answer to the
-- last request for it; the number of each handle, in reading order, which is its index in the
-- receiver's table or, where the receiver implements a borrowed resource, its representation; and
-- what its strings are in.
pub record Given : Type 0 where
  pub places : List ℕ
  pub numbers : List ℕ
  pub charset : Charset

-- the place of a part, and the number of a handle
abbrev pub place_of : Given → ℕ → ℕ
place_of g k = slice_index g.places k

abbrev pub number_of : Given → ℕ → ℕ
number_of g h = slice_index g.numbers h

-- What is stored of a value begins at an address, and with a part and a handle of these numbers.
abbrev pub Storing : Type 0
Storing = Val → ℕ → ℕ → ℕ → List Placed

-- a pointer and a length
abbrev pub pointer_bytes : ℕ → ℕ → ℕ → List Placed
pointer_bytes p at n = placed p (bytes_of 4 at) ++ placed (p + 4) (bytes_of 4 n)

-- values in a row
abbrev pub store_each : Storing → ℕ → Vals → ℕ → ℕ → ℕ → List Placed
store_each S size no_vals p k h = []
store_each S size (val v vs) p k h =
    S v p k h ++ store_each S size vs (p + size) (k + part_count v) (h + handle_count v)

abbrev mutual
  -- the bytes of a value of a type, each at its address, with all that its pointers lead to
  pub stored : Given → Ty → Val → ℕ → ℕ → ℕ → List Placed
  stored g bool (truth b) p k h = (p, (if b then 1 else 0)) ∷ []
  stored g (signed w) (signed_number z) p k h =
      placed p (bytes_of (width_bytes w) (from_signed (width_bytes w) z))
  stored g (unsigned w) (number n) p k h = placed p (bytes_of (width_bytes w) n)
  stored g char (scalar c) p k h = placed p (bytes_of 4 c)
  stored g string (text cs) p k h =
      pointer_bytes p (place_of g k) (text_units g.charset cs)
      ++ placed (place_of g k) (text_bytes g.charset cs)
  stored g (list t) (elements vs) p k h =
      pointer_bytes p (place_of g k) (count_of vs)
      ++ store_each (stored g t) (size_of t) vs (place_of g k) (k + 1) h
  stored g (fixed_list t n) (parts vs) p k h = store_each (stored g t) (size_of t) vs p k h
  stored g (fields f fs) (parts vs) p k h = stored_fields g fs vs p 0 k h
  stored g (cases c cs) (bare i) p k h =
      placed p (bytes_of (discriminant_size (case_count cs)) i)
  stored g (cases c cs) (bearing i v) p k h =
      placed p (bytes_of (discriminant_size (case_count cs)) i)
      ++ stored_payload g cs i v (p + payload_offset cs) k h
  stored g (flags ls) (flag_set n) p k h = placed p (bytes_of (flags_size (length ls)) n)
  stored g (own r) (handle e) p k h = placed p (bytes_of 4 (number_of g h))
  stored g (borrow r) (handle e) p k h = placed p (bytes_of 4 (number_of g h))
  stored g t v p k h = []

  -- those of fields
  pub stored_fields : Given → Fields → Vals → ℕ → ℕ → ℕ → ℕ → List Placed
  stored_fields g no_fields vs p end k h = []
  stored_fields g (field l t fs) no_vals p end k h = []
  stored_fields g (field l t fs) (val v vs) p end k h =
      stored g t v (p + align_to (align_of t) end) k h
      ++ stored_fields g fs vs p (align_to (align_of t) end + size_of t)
      (k + part_count v) (h + handle_count v)

  -- those of what the case of this number carries
  pub stored_payload : Given → Cases → ℕ → Val → ℕ → ℕ → ℕ → List Placed
  stored_payload g no_cases i v p k h = []
  stored_payload g (plain l cs) zero v p k h = []
  stored_payload g (plain l cs) (suc i) v p k h = stored_payload g cs i v p k h
  stored_payload g (carrying l t cs) zero v p k h = stored g t v p k h
  stored_payload g (carrying l t cs) (suc i) v p k h = stored_payload g cs i v p k h

-- memory after these bytes were stored, one after another
abbrev pub poke : List Placed → List ℕ → List ℕ
poke [] memory = memory
poke (b ∷ bs) memory = poke bs (slice_set memory b.0 b.1)

-- memory has each of these bytes at its address
abbrev pub Holds : List ℕ → List Placed → Type 0
Holds memory [] = ⊤
Holds memory (b ∷ bs) = (slice_index memory b.0 ≡ b.1) × Holds memory bs

-- none of them stands at an address
abbrev pub IsBeside : ℕ → List Placed → Type 0
IsBeside at [] = ⊤
IsBeside at (b ∷ bs) = (at ≡ b.0 → ⊥) × IsBeside at bs

-- memory is as long as it was, and differs at the addresses of these bytes alone
pub record Framed (old new : List ℕ) (bs : List Placed) : Type 0 where
  pub length_stays : length new ≡ length old
  pub others_stay : (at : ℕ) → IsBeside at bs → slice_index new at ≡ slice_index old at
