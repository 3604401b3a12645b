-- What is marked as plain bytes is numbers, one behind the other, and nothing else is marked.
use Rattle.std.proofs.Common.{◌≡◌, ◌↔◌, ℕ, ◌+◌, ◌<◌, false, ◌&&◌, ◌||◌, IsTrue, length, refl, sym, ◌∙◌, arith, inl, inr}
use Rattle.std.proofs.lemmas.Bool.{eqb-true, eq-eqb, and_parts, and_from, or_cases, or_left, or_right, cases_Bool}
use Rattle.std.specs.Prelude.{◌==◌}
use Rattle.cm_types.specs.Types.{Ty, Fields, Cases, bool, signed, unsigned, char, string, list, fixed_list, fields, cases, flags, own, borrow, no_fields, field, no_cases, plain, carrying}
use Rattle.cm_layout.specs.Alignment.{align_to}
use Rattle.cm_layout.specs.Sizes.{align_of, flags_size, size_of, end_of}
use Rattle.cm_layout.specs.PlainBytes.{number_bytes_of_fields, is_bulk}
use Rattle.cm_layout.specs.Shapes.{head_of, shape_of_type, parts_at, parts_from, payloads_of, payloads_from}
use Rattle.cm_layout.specs.Laid.{IsNumbers, AreNumbers, IsMarked, ArePartsMarked, ArePayloadsMarked}
use Rattle.cm_layout.proofs.AlignLemmas.{flags_pos}
use Rattle.cm_layout.proofs.BulkLaws.{fills, fills_from_start, fields_bulk, fixed_list_bulk, cases_not_bulk}
use Rattle.cm_lemmas.proofs.Numbers.{not_zero}

-- a length of 0 or elements that are numbers
fixed_list_numbers : (t : Ty) (n : ℕ) → (IsTrue (is_bulk t) → IsNumbers (size_of t) (shape_of_type t)) → IsTrue ((n == 0) || is_bulk t) → 0 < n → IsNumbers (size_of t) (shape_of_type t)
fixed_list_numbers t n f h pos = elim (or_cases (n == 0) (is_bulk t) h) [
  | inl e ↦ let z : n ≡ 0 = eqb-true n 0 e in absurd (omega arith)
  | inr b ↦ f b
]

mutual
  to_numbers : (t : Ty) → IsTrue (is_bulk t) → IsNumbers (size_of t) (shape_of_type t)
  to_numbers bool h = cc
  to_numbers (signed w) h = refl
  to_numbers (unsigned w) h = refl
  to_numbers char h = cc
  to_numbers string h = cc
  to_numbers (list t) h = cc
  to_numbers (fixed_list t n) h = (refl, fixed_list_numbers t n (to_numbers t) (sym (fixed_list_bulk t n) ∙ h))
  to_numbers (fields k fs) h =
      let b = and_parts (number_bytes_of_fields fs == end_of fs 0) (size_of (fields k fs) == end_of fs 0) (fields_bulk k fs ∙ h) in
      to_part_numbers fs 0 (size_of (fields k fs)) (fills_from_start fs ∙ b.0) (eqb-true (size_of (fields k fs)) (end_of fs 0) b.1)
  to_numbers (cases k cs) h = let e : is_bulk (cases k cs) ≡ false = cases_not_bulk k cs in cc
  to_numbers (flags ls) h = let e : 0 ≡ flags_size (length ls) = eqb-true 0 (flags_size (length ls)) h in absurd (omega (arith, flags_pos (length ls)))
  to_numbers (own r) h = cc
  to_numbers (borrow r) h = cc

  to_part_numbers : (fs : Fields) (at n : ℕ) → IsTrue (fills fs at) → n ≡ end_of fs at → AreNumbers n at (parts_from (parts_at fs at))
  to_part_numbers no_fields at n h e = e
  to_part_numbers (field l t fs) at n h e =
      let b = and_parts (is_bulk t && (align_to (align_of t) at == at)) (fills fs (align_to (align_of t) at + size_of t)) h in
      let c = and_parts (is_bulk t) (align_to (align_of t) at == at) b.0 in
      (eqb-true (align_to (align_of t) at) at c.1, to_numbers t c.0, to_part_numbers fs (align_to (align_of t) at + size_of t) n b.1 e)

mutual
  from_numbers : (t : Ty) → IsNumbers (size_of t) (shape_of_type t) → IsTrue (is_bulk t)
  from_numbers bool h = absurd h
  from_numbers (signed w) h = eq-eqb (size_of (signed w)) (size_of (signed w)) refl
  from_numbers (unsigned w) h = eq-eqb (size_of (unsigned w)) (size_of (unsigned w)) refl
  from_numbers char h = absurd h
  from_numbers string h = absurd h
  from_numbers (list t) h = absurd h
  from_numbers (fixed_list t n) h = fixed_list_bulk t n ∙ elim (cases_Bool (n == 0)) [
    | inl z ↦ or_left (n == 0) (is_bulk t) z
    | inr z ↦ or_right (n == 0) (is_bulk t) (from_numbers t (h.1 (not_zero n z)))
  ]
  from_numbers (fields k fs) h =
      let b = from_part_numbers fs 0 (size_of (fields k fs)) h in
      sym (fields_bulk k fs) ∙ and_from (number_bytes_of_fields fs == end_of fs 0) (size_of (fields k fs) == end_of fs 0) (sym (fills_from_start fs) ∙ b.0) (eq-eqb (size_of (fields k fs)) (end_of fs 0) b.1)
  from_numbers (cases k cs) h = absurd h
  from_numbers (flags ls) h = absurd h
  from_numbers (own r) h = absurd h
  from_numbers (borrow r) h = absurd h

  from_part_numbers : (fs : Fields) (at n : ℕ) → AreNumbers n at (parts_from (parts_at fs at)) → IsTrue (fills fs at) × (n ≡ end_of fs at)
  from_part_numbers no_fields at n h = (refl, h)
  from_part_numbers (field l t fs) at n h =
      let p = align_to (align_of t) at in
      let rest = from_part_numbers fs (p + size_of t) n h.2 in
      let here = and_from (is_bulk t) (p == at) (from_numbers t h.1) (eq-eqb p at h.0) in
      (and_from (is_bulk t && (p == at)) (fills fs (p + size_of t)) here rest.0, rest.1)

-- plain bytes are numbers, one behind the other
pub marks : (t : Ty) → IsTrue (is_bulk t) ↔ IsNumbers (size_of t) (shape_of_type t)
marks t = (to_numbers t, from_numbers t)

mutual
  pub marked : (t : Ty) → IsMarked (head_of t) (shape_of_type t)
  marked bool = marks bool
  marked (signed w) = marks (signed w)
  marked (unsigned w) = marks (unsigned w)
  marked char = marks char
  marked string = marks string
  marked (list t) = (to_numbers (list t), marked t)
  marked (fixed_list t n) = (marks (fixed_list t n), marked t)
  marked (fields k fs) = (marks (fields k fs), parts_marked fs 0)
  marked (cases k cs) = (to_numbers (cases k cs), payloads_marked cs)
  marked (flags ls) = marks (flags ls)
  marked (own r) = marks (own r)
  marked (borrow r) = marks (borrow r)

  parts_marked : (fs : Fields) (at : ℕ) → ArePartsMarked (parts_from (parts_at fs at))
  parts_marked no_fields at = tt
  parts_marked (field l t fs) at = (marked t, parts_marked fs (align_to (align_of t) at + size_of t))

  payloads_marked : (cs : Cases) → ArePayloadsMarked (payloads_from (payloads_of cs))
  payloads_marked no_cases = tt
  payloads_marked (plain l cs) = payloads_marked cs
  payloads_marked (carrying l t cs) = (marked t, payloads_marked cs)
