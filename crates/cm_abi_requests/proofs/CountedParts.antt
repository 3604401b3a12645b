-- A value that has its type has scalars in its strings, and one of little content has few elements in
-- its lists, since each takes a byte or more.
use Rattle.std.proofs.Common.{◌≡◌, ℕ, zero, suc, ◌+◌, ◌-◌, ◌*◌, ◌/◌, ◌^◌, ◌<◌, ◌≤◌, Bool, true, false, List, [], ◌∷◌, ◌++◌, length, max, refl, arith, nat_lt}
use Rattle.std.specs.Prelude.{◌&&◌, not, nat_le, if◌then◌else◌}
use Rattle.std.specs.List.{AllByRecursion}
use Rattle.std.proofs.Math.Nat.{lt-div-mul-add, mul-le-mul_left}
use Rattle.std.proofs.lemmas.Bool.{and_parts, ltb-true}
use Rattle.cm_types.specs.Spellable.{are_spellable, are_spellable_payloads, has_no_cases, has_no_fields, is_spellable}
use Rattle.cm_types.specs.Types.{Ty, Fields, Cases, Width, bits_8, bits_16, bits_32, bits_64, width_bytes, bool, signed, unsigned, char, string, list, fixed_list, fields, cases, flags, own, borrow, no_fields, field, no_cases, plain, carrying}
use Rattle.cm_types.specs.Values.{Val, Vals, no_vals, val, truth, signed_number, number, scalar, text, elements, parts, bare, bearing, flag_set, handle, count_of, AllVals, HasType, HaveTypes, IsCarriedCase, IsScalarValue}
use Rattle.cm_layout.specs.Alignment.{align_to}
use Rattle.cm_layout.specs.Sizes.{align_of, align_of_fields, case_count, discriminant_size, end_of, flags_size, greatest_payload, payload_offset, size_of}
use Rattle.cm_abi_model.specs.declared.encoding.StringEncoding.{StringEncoding}
use Rattle.cm_abi_model.specs.Parts.{Part, text_part, element_part, parts_each, parts_in, parts_in_fields, parts_in_payload}
use Rattle.cm_abi_model.specs.Requests.{IsStored, first_tag, read_charset, tags_behind, tuple_of}
use Rattle.cm_abi_model.specs.Taken.{MAX_CONTENT}
use Rattle.cm_abi_model.specs.Answering.{AreCounted, HaveScalars}
use Rattle.cm_abi_requests.specs.Asking.{content_of_parts, part_content}
use Rattle.cm_abi_requests.proofs.AlignedRequests.{fields_some, type_some}
use Rattle.cm_lemmas.proofs.Bools.{picked_pos}
use Rattle.cm_layout.proofs.LaidLaws.{end_grows}
use Rattle.cm_layout.proofs.SizesLaws.{payloads_pos}
use Rattle.cm_types.proofs.TypesLaws.{width_pos}

-- ---- sizes

behind : (a e : ℕ) → 0 < a → e ≤ align_to a e
behind a e some = omega (arith, some, lt-div-mul-add {a = e + (a - 1)} {b = a} some)

product_some : (m n : ℕ) → 0 < m → 0 < n → 0 < m * n
product_some zero n some more = absurd (omega (arith, some))
product_some (suc m) n some more = omega (arith, more)

mutual
  pub size_some : (t : Ty) → is_spellable t ≡ true → 0 < size_of t
  size_some bool is = omega arith
  size_some (signed w) is = width_pos w
  size_some (unsigned w) is = width_pos w
  size_some char is = omega arith
  size_some string is = omega arith
  size_some (list t) is = omega arith
  size_some (fixed_list t n) is =
      let both = and_parts (nat_lt 0 n) (is_spellable t) is in
      product_some n (size_of t) (ltb-true 0 n both.0) (size_some t both.1)
  size_some (fields k fs) is =
      let both = and_parts (not (has_no_fields fs)) (are_spellable fs) is in
      omega (arith, first_some fs both.0 both.1, behind (align_of_fields fs) (end_of fs 0) (fields_some fs))
  size_some (cases k cs) is =
      let low : discriminant_size (case_count cs) ≤ payload_offset cs = behind _ (discriminant_size (case_count cs)) (payloads_pos cs) in
      let some : 0 < discriminant_size (case_count cs) = picked_pos (nat_le (case_count cs) 256) (nat_le (case_count cs) 65536) in
      omega (arith, low, some, behind (align_of (cases k cs)) (payload_offset cs + greatest_payload cs) (type_some (cases k cs)))
  size_some (flags ls) is = picked_pos (nat_le (length ls) 8) (nat_le (length ls) 16)
  size_some (own r) is = omega arith
  size_some (borrow r) is = omega arith

  first_some : (fs : Fields) → not (has_no_fields fs) ≡ true → are_spellable fs ≡ true → 0 < end_of fs 0
  first_some no_fields some is = absurd (cc)
  first_some (field l t fs) some is =
      let both = and_parts (is_spellable t) (are_spellable fs) is in
      omega (arith, size_some t both.0, end_grows fs (align_to (align_of t) 0 + size_of t))

-- ---- parts

-- each element of a list takes a byte or more
abbrev HaveSizes : List Part → Type 0
HaveSizes [] = Unit {0}
HaveSizes (text_part cs ∷ ps) = HaveSizes ps
HaveSizes (element_part count size align ∷ ps) = (0 < size) × HaveSizes ps

sizes_both : (ps qs : List Part) → HaveSizes ps → HaveSizes qs → HaveSizes (ps ++ qs)
sizes_both [] qs h k = k
sizes_both (text_part cs ∷ ps) qs h k = sizes_both ps qs h k
sizes_both (element_part count size align ∷ ps) qs h k = (h.0, sizes_both ps qs h.1 k)

sizes_each : (P : Val → List Part) → ((v : Val) → HaveSizes (P v)) → (vs : Vals) → HaveSizes (parts_each P vs)
sizes_each P one no_vals = tt
sizes_each P one (val v vs) = sizes_both (P v) (parts_each P vs) (one v) (sizes_each P one vs)

mutual
  sizes : (t : Ty) → is_spellable t ≡ true → (v : Val) → HaveSizes (parts_in t v)
  sizes (list t) is (elements vs) = (size_some t is, sizes_each (parts_in t) (sizes t is) vs)
  sizes (fixed_list t n) is (parts vs) = sizes_each (parts_in t) (sizes t (and_parts (nat_lt 0 n) (is_spellable t) is).1) vs
  sizes (fields k fs) is (parts vs) = sizes_in_fields fs (and_parts (not (has_no_fields fs)) (are_spellable fs) is).1 vs
  sizes (cases k cs) is (bearing i v) = sizes_in_payload cs (and_parts (not (has_no_cases cs)) (are_spellable_payloads cs) is).1 i v
  sizes t is (text cs) = tt
  sizes t is v = tt

  sizes_in_fields : (fs : Fields) → are_spellable fs ≡ true → (vs : Vals) → HaveSizes (parts_in_fields fs vs)
  sizes_in_fields no_fields is vs = tt
  sizes_in_fields (field l t fs) is no_vals = tt
  sizes_in_fields (field l t fs) is (val v vs) =
      let both = and_parts (is_spellable t) (are_spellable fs) is in
      sizes_both (parts_in t v) (parts_in_fields fs vs) (sizes t both.0 v) (sizes_in_fields fs both.1 vs)

  sizes_in_payload : (cs : Cases) → are_spellable_payloads cs ≡ true → (i : ℕ) (v : Val) → HaveSizes (parts_in_payload cs i v)
  sizes_in_payload no_cases is i v = tt
  sizes_in_payload (plain l cs) is zero v = tt
  sizes_in_payload (plain l cs) is (suc i) v = sizes_in_payload cs is i v
  sizes_in_payload (carrying l t cs) is zero v = sizes t (and_parts (is_spellable t) (are_spellable_payloads cs) is).0 v
  sizes_in_payload (carrying l t cs) is (suc i) v = sizes_in_payload cs (and_parts (is_spellable t) (are_spellable_payloads cs) is).1 i v

count_small : (count size most : ℕ) → 0 < size → count * size ≤ most → count ≤ most
count_small count zero most some small = absurd (omega (arith, some))
count_small count (suc size) most some small = omega (arith, small)

few : (source : StringEncoding) (tags : List Bool) (ps : List Part) (most : ℕ) → most < 2 ^ 32 → HaveSizes ps → content_of_parts source tags ps ≤ most → AreCounted ps
few source tags [] most low have small = tt
few source tags (text_part cs ∷ ps) most low have small = (omega arith, few source (tags_behind (text_part cs) tags) ps most low have (omega (arith, small)))
few source tags (element_part count size align ∷ ps) most low have small =
    let one : count ≤ most = count_small count size most have.0 (omega (arith, small)) in
    (omega (arith, one, low), few source tags ps most low have.1 (omega (arith, small)))

pub typed_counted : (types : Fields) (v : Val) (source : StringEncoding) (tags : List Bool) → are_spellable types ≡ true
    → content_of_parts source tags (parts_in (tuple_of types) v) ≤ MAX_CONTENT → AreCounted (parts_in (tuple_of types) v)
typed_counted types v source tags is small = few source tags (parts_in (tuple_of types) v) MAX_CONTENT (omega arith) (all v) small
  where
    all : (v : Val) → HaveSizes (parts_in (tuple_of types) v)
    all (parts vs) = sizes_in_fields types is vs
    all (text cs) = tt
    all v = tt
