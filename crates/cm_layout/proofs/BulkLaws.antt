-- Which types are plain bytes.
use Rattle.std.proofs.Common.{add-zero, ◌≡◌, ℕ, zero, suc, ◌+◌, ◌*◌, ◌≤◌, Bool, true, false, ◌&&◌, ◌||◌, sym, ap, ◌∙◌, arith, inl, inr}
use Rattle.std.proofs.lemmas.Bool.{eqb-true, eq-eqb, ne_eqb, or_right, or_cases}
use Rattle.std.proofs.lemmas.Bool.Decides.{nat_tests}
use Rattle.std.specs.Prelude.{◌==◌}
use Rattle.std.specs.Cmp.{both_ways}
use Rattle.std.proofs.Math.Nat.{mul-le-mul_left}
use Rattle.cm_types.specs.Types.{Ty, Fields, Cases, FieldsKind, CasesKind, bool, signed, unsigned, char, string, list, fixed_list, fields, cases, flags, own, borrow, no_fields, field}
use Rattle.cm_layout.specs.Alignment.{align_to}
use Rattle.cm_layout.specs.Sizes.{align_of, align_of_fields, align_of_payloads, case_count, discriminant_size, payload_offset, size_of, end_of, greatest_payload}
use Rattle.cm_layout.specs.PlainBytes.{number_bytes, number_bytes_of_fields, is_bulk}
use Rattle.cm_layout.proofs.AlignLemmas.{align_pos, fields_align_pos, payloads_align_pos, discriminant_pos}
use Rattle.cm_layout.proofs.SizeLemmas.{place_above}

mutual
  -- a type has no more bytes of numbers than bytes
  pub numbers_fit : (t : Ty) → number_bytes t ≤ size_of t
  numbers_fit bool = omega arith
  numbers_fit (signed w) = omega arith
  numbers_fit (unsigned w) = omega arith
  numbers_fit char = omega arith
  numbers_fit string = omega arith
  numbers_fit (list t) = omega arith
  numbers_fit (fixed_list t n) = mul-le-mul_left n (numbers_fit t)
  numbers_fit (fields k fs) = omega (arith, fields_fit fs 0, place_above (align_of_fields fs) (end_of fs 0) (fields_align_pos fs))
  numbers_fit (cases k cs) = omega arith
  numbers_fit (flags ls) = omega arith
  numbers_fit (own r) = omega arith
  numbers_fit (borrow r) = omega arith

  pub fields_fit : (fs : Fields) (at : ℕ) → number_bytes_of_fields fs + at ≤ end_of fs at
  fields_fit no_fields at = omega arith
  fields_fit (field l t fs) at = omega (arith, numbers_fit t, place_above (align_of t) at (align_pos t), fields_fit fs (align_to (align_of t) at + size_of t))

-- whether fields are plain bytes, and stand where the ones before them end
abbrev pub fills : Fields → ℕ → Bool
fills no_fields at = true
fills (field l t fs) at = (is_bulk t && (align_to (align_of t) at == at)) && fills fs (align_to (align_of t) at + size_of t)

-- a field of x bytes of numbers and s bytes stands at p, behind what ends at a; the others, with m bytes of numbers, end at e
one_more : (x s p a m e : ℕ) → x ≤ s → a ≤ p → m + (p + s) ≤ e → ((x == s) && (p == a)) && ((m + (p + s)) == e) ≡ ((x + m + a) == e)
one_more x s p a m e h k l = grind (arith, nat_tests)

pub fills_is : (fs : Fields) (at : ℕ) → fills fs at ≡ ((number_bytes_of_fields fs + at) == end_of fs at)
fills_is no_fields at = sym (eq-eqb (0 + at) at (omega arith))
fills_is (field l t fs) at =
    let p = align_to (align_of t) at in
    ap (λ b. (is_bulk t && (align_to (align_of t) at == at)) && b) (fills_is fs (align_to (align_of t) at + size_of t))
    ∙ one_more (number_bytes t) (size_of t) p at (number_bytes_of_fields fs) (end_of fs (p + size_of t)) (numbers_fit t) (place_above (align_of t) at (align_pos t)) (fields_fit fs (p + size_of t))

-- the same of a whole of size s, where the fields end at e
whole_fills : (m e s : ℕ) → m ≤ e → e ≤ s → ((m == e) && (s == e)) ≡ (m == s)
whole_fills m e s h k = grind (arith, nat_tests)

pub fills_from_start : (fs : Fields) → fills fs 0 ≡ (number_bytes_of_fields fs == end_of fs 0)
fills_from_start fs = fills_is fs 0 ∙ ap (λ m. m == end_of fs 0) (add-zero (number_bytes_of_fields fs))

pub fields_bulk : (k : FieldsKind) (fs : Fields) → ((number_bytes_of_fields fs == end_of fs 0) && (size_of (fields k fs) == end_of fs 0)) ≡ is_bulk (fields k fs)
fields_bulk k fs =
    whole_fills (number_bytes_of_fields fs) (end_of fs 0) (size_of (fields k fs)) (omega (arith, fields_fit fs 0)) (place_above (align_of_fields fs) (end_of fs 0) (fields_align_pos fs))

same_products : (n x y : ℕ) → x ≤ y → ((n * x) == (n * y)) ≡ ((n == 0) || (x == y))
same_products zero x y h = eq-eqb (0 * x) (0 * y) (omega arith)
same_products (suc n) x y h =
    both_ways ((suc n * x) == (suc n * y)) ((suc n == 0) || (x == y))
    (λ e. let f : suc n * x ≡ suc n * y = eqb-true (suc n * x) (suc n * y) e in or_right (suc n == 0) (x == y) (eq-eqb x y (cancelled n x y h f)))
    (λ e. elim (or_cases (suc n == 0) (x == y) e) [
      | inl z ↦ let f : suc n ≡ 0 = eqb-true (suc n) 0 z in absurd (omega arith)
      | inr b ↦ let f : x ≡ y = eqb-true x y b in eq-eqb (suc n * x) (suc n * y) (ap (λ z. suc n * z) f)
    ])
  where
    cancelled : (n x y : ℕ) → x ≤ y → suc n * x ≡ suc n * y → x ≡ y
    cancelled n x y h f = let k : n * x ≤ n * y = mul-le-mul_left n h in omega arith

pub fixed_list_bulk : (t : Ty) (n : ℕ) → is_bulk (fixed_list t n) ≡ ((n == 0) || is_bulk t)
fixed_list_bulk t n = same_products n (number_bytes t) (size_of t) (numbers_fit t)

cases_size_pos : (k : CasesKind) (cs : Cases) → 1 ≤ size_of (cases k cs)
cases_size_pos k cs =
    omega (
      arith,
      discriminant_pos (case_count cs),
      place_above (align_of_payloads cs) (discriminant_size (case_count cs)) (payloads_align_pos cs),
      place_above (align_of (cases k cs)) (payload_offset cs + greatest_payload cs) (align_pos (cases k cs)),
    )

pub cases_not_bulk : (k : CasesKind) (cs : Cases) → is_bulk (cases k cs) ≡ false
cases_not_bulk k cs = ne_eqb 0 (size_of (cases k cs)) (λ e. absurd (omega (arith, cases_size_pos k cs)))
