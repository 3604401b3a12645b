-- Alignments, the least multiples of them, and offsets.
use Rattle.std.proofs.Common.{◌≡◌, ℕ, zero, suc, ◌+◌, ◌-◌, ◌*◌, ◌/◌, ◌<◌, ◌≤◌, ◌⊎◌, inl, inr, length, nat_le, Option, Some, None, refl, sym, ap, subst, ◌∙◌, arith}
use Rattle.std.proofs.Math.Nat.{div-mul-le_self, lt-div-mul-add, mul-le-mul_right}
use Rattle.std.proofs.lemmas.Bool.{cases_Bool, cases_lt}
use Rattle.cm_types.specs.Types.{Ty, Fields, FieldsKind, Cases, bool, signed, unsigned, char, string, list, fixed_list, fields, cases, flags, own, borrow, no_fields, field, no_cases, plain, carrying}
use Rattle.cm_layout.specs.Alignment.{IsLeastMultiple, align_to}
use Rattle.cm_layout.specs.Sizes.{IsLeastBytes, align_of, align_of_fields, align_of_payloads, field_count, field_offset, field_offset_from, field_type, flags_size, size_of}
use Rattle.cm_abi_model.specs.PartPlaces.{AreOffsets, IsCase, IsGreatestAlignment}
use Rattle.cm_layout.proofs.SizesLaws.{payloads_pos}
use Rattle.cm_layout.proofs.OffsetLaws.{field_is_placed}
use Rattle.cm_types.proofs.TypesLaws.{width_pos}

-- ---- least multiples

below_next : (q a e j : ℕ) → 0 < a → q * a ≤ e + (a - 1) → e ≤ j * a → j < q → ⊥
below_next q a e j p h k l =
    let m : suc j * a ≤ q * a = mul-le-mul_right a (omega arith) in
    omega arith

pub least_multiple : (a e : ℕ) → 0 < a → IsLeastMultiple a e (align_to a e)
least_multiple a e p =
    let q = (e + (a - 1)) / a in
    let near : q * a ≤ e + (a - 1) = div-mul-le_self (e + (a - 1)) a in
    let past : e + (a - 1) < q * a + a = lt-div-mul-add p in
    record {
      multiple = (q, refl);
      above = omega arith;
      least = λ j le. elim (cases_lt j q) [
        | inl lt ↦ absurd (below_next q a e j p near le lt)
        | inr more ↦ mul-le-mul_right a more
      ];
    }

pub one_multiple : (a e x y : ℕ) → IsLeastMultiple a e x → IsLeastMultiple a e y → x ≡ y
one_multiple a e x y h k =
    let xy : x ≤ y = subst (λ n. x ≤ n) (sym k.multiple.1) (h.least k.multiple.0 (subst (λ n. e ≤ n) k.multiple.1 k.above)) in
    let yx : y ≤ x = subst (λ n. y ≤ n) (sym h.multiple.1) (k.least h.multiple.0 (subst (λ n. e ≤ n) h.multiple.1 h.above)) in
    omega (arith, xy, yx)

-- ---- alignments are some

flags_pos : (n : ℕ) → 0 < flags_size n
flags_pos n = elim (cases_Bool (nat_le n 8)) [
  | inl y ↦ rw y (omega arith)
  | inr b ↦ elim (cases_Bool (nat_le n 16)) [ inl y ↦ rw (b, y) (omega arith) | inr c ↦ rw (b, c) (omega arith) ]
]

pub fields_pos : (fs : Fields) → 0 < align_of_fields fs
fields_pos no_fields = omega arith
fields_pos (field l t fs) = omega (arith, fields_pos fs)

pub align_pos : (t : Ty) → 0 < align_of t
align_pos bool = omega arith
align_pos (signed w) = width_pos w
align_pos (unsigned w) = width_pos w
align_pos char = omega arith
align_pos string = omega arith
align_pos (list t) = omega arith
align_pos (fixed_list t n) = align_pos t
align_pos (fields k fs) = fields_pos fs
align_pos (cases k cs) = omega (arith, payloads_pos cs)
align_pos (flags ls) = flags_pos (length ls)
align_pos (own r) = omega arith
align_pos (borrow r) = omega arith

-- ---- offsets of fields

first_offset : (fs : Fields) → field_offset_from fs 0 0 ≡ 0
first_offset no_fields = refl
first_offset (field l t fs) = one_multiple (align_of t) 0 (align_to (align_of t) 0) 0 (least_multiple (align_of t) 0 (align_pos t)) (record { multiple = (0, omega arith); above = omega arith; least = λ j le. omega arith })

pub are_offsets : (k : FieldsKind) (fs : Fields) → AreOffsets fs (field_offset (fields k fs))
are_offsets k fs = record { first = first_offset fs; next = λ i lt. next i lt }
  where
    next : (i : ℕ) → i + 1 < field_count fs → IsLeastMultiple (align_of (field_type fs (i + 1))) (field_offset_from fs 0 i + size_of (field_type fs i)) (field_offset_from fs 0 (i + 1))
    next i lt =
        let same : i + 1 ≡ suc i = omega arith in
        subst (λ n. IsLeastMultiple (align_of (field_type fs n)) (field_offset_from fs 0 i + size_of (field_type fs i)) (field_offset_from fs 0 n)) (sym same) (field_is_placed fs 0 (suc i) (omega (arith, lt)))

-- there is one offset for each field
pub offset_is : (fs : Fields) (offset : ℕ → ℕ) → AreOffsets fs offset → (n : ℕ) → n < field_count fs → offset n ≡ field_offset_from fs 0 n
offset_is fs offset h zero lt = h.first ∙ sym (first_offset fs)
offset_is fs offset h (suc n) lt =
    let same : n + 1 ≡ suc n = omega arith in
    let before = offset_is fs offset h n (omega (arith, lt)) in
    let next = subst (λ m. IsLeastMultiple (align_of (field_type fs m)) (offset n + size_of (field_type fs n)) (offset m)) same (h.next n (omega (arith, lt))) in
    let from = subst (λ o. IsLeastMultiple (align_of (field_type fs (suc n))) (o + size_of (field_type fs n)) (offset (suc n))) before next in
    one_multiple (align_of (field_type fs (suc n))) (field_offset_from fs 0 n + size_of (field_type fs n)) (offset (suc n)) (field_offset_from fs 0 (suc n)) from (field_is_placed fs 0 (suc n) lt)

pub offset_aligned : (fs : Fields) (offset : ℕ → ℕ) → AreOffsets fs offset → (n : ℕ) → n < field_count fs → (k : ℕ) × (offset n ≡ k * align_of (field_type fs n))
offset_aligned fs offset h n lt =
    let m = (field_is_placed fs 0 n lt).multiple in
    (m.0, offset_is fs offset h n lt ∙ m.1)

-- ---- what cases carry

pub case_aligned : (cs : Cases) (i : ℕ) (t : Ty) → IsCase cs i (Some t) → align_of t ≤ align_of_payloads cs
case_aligned no_cases i t h = absurd h
case_aligned (plain l cs) zero t h = absurd (none_some h)
  where
    none_some : Some t ≡ None → ⊥
    none_some e = cc
case_aligned (plain l cs) (suc i) t h = case_aligned cs i t h
case_aligned (carrying l u cs) zero t h = omega (arith, ap (λ o. align_in o) h)
  where
    align_in : Option Ty → ℕ
    align_in None = 0
    align_in (Some s) = align_of s
case_aligned (carrying l u cs) (suc i) t h = omega (arith, case_aligned cs i t h)

abbrev Reached : Cases → ℕ → Type 0
Reached cs a = (a ≡ 1) ⊎ ((i : ℕ) × (t : Ty) × IsCase cs i (Some t) × (a ≡ align_of t))

reached : (cs : Cases) → Reached cs (align_of_payloads cs)
reached no_cases = inl refl
reached (plain l cs) = elim (reached cs) [ inl one ↦ inl one | inr some ↦ inr (suc some.0, some.1, some.2, some.3) ]
reached (carrying l t cs) = elim (cases_lt (align_of t) (align_of_payloads cs)) [
  | inr more ↦ inr (0, t, refl, omega (arith, more))
  | inl less ↦ elim (reached cs) [
    | inl one ↦ absurd (omega (arith, less, one, align_pos t))
    | inr some ↦ inr (suc some.0, some.1, some.2, omega (arith, less, some.3))
  ]
]

pub greatest_alignment : (cs : Cases) → IsGreatestAlignment cs (align_of_payloads cs)
greatest_alignment cs = record { above = case_aligned cs; reached = reached cs }

pub one_greatest : (cs : Cases) (a : ℕ) → IsGreatestAlignment cs a → a ≡ align_of_payloads cs
one_greatest cs a h =
    let up : align_of_payloads cs ≤ a = elim (reached cs) [
      | inl one ↦ elim h.reached [ inl e ↦ omega (arith, e, one) | inr some ↦ omega (arith, one, some.3, align_pos some.1) ]
      | inr some ↦ omega (arith, some.3, h.above some.0 some.1 some.2)
    ] in
    let down : a ≤ align_of_payloads cs = elim h.reached [
      | inl one ↦ omega (arith, one, payloads_pos cs)
      | inr some ↦ omega (arith, some.3, case_aligned cs some.0 some.1 some.2)
    ] in
    omega (arith, up, down)

-- ---- the bytes of the number of a case

pub one_bytes : (P : ℕ → Type 0) (b c : ℕ) → IsLeastBytes P b → IsLeastBytes P c → b ≡ c
one_bytes P b c h k = omega (arith, h.least c k.one_of k.enough, k.least b h.one_of h.enough)
