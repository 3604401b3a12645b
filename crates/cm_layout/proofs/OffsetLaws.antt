-- Where fields stand.
use Rattle.std.proofs.Common.{◌≡◌, ℕ, zero, suc, ◌+◌, ◌*◌, ◌≤◌, ◌<◌, List, [], ◌∷◌, length, map, take, get_or, nat_le, inl, inr, refl, sym, ap, ◌∙◌, arith}
use Rattle.std.proofs.lemmas.Bool.{cases_Bool}
use Rattle.std.proofs.Math.Nat.{mul_assoc}
use Rattle.std.proofs.lemmas.List.{length-map}
use Rattle.cm_types.specs.Types.{Ty, Fields, Cases, width_bytes, bool, signed, unsigned, char, string, list, fixed_list, fields, cases, flags, own, borrow, no_fields, field}
use Rattle.cm_types.specs.TypeTrees.{TypedLabel, fields_from, parts_from, plain_from, field_of, type_of, fields_of, parts_of}
use Rattle.cm_types.specs.Limits.{nodes_of, nodes_of_fields}
use Rattle.cm_types.specs.declared.type_trees.TypeNode.{TypeNode}
use Rattle.cm_types.specs.declared.type_trees.Field.{Field}
use Rattle.cm_layout.specs.Alignment.{align_to, IsLeastMultiple}
use Rattle.cm_layout.specs.Sizes.{IsWholeSize, align_of, align_of_payloads, case_count, discriminant_size, payload_offset, size_of, end_of, field_offset_from, field_count, field_type, end_before, HasField, fields_in, field_offset, HasCases, IsPayloadOffset, case_offset, align_of_fields, flags_size, greatest_payload}
use Rattle.cm_layout.proofs.AlignLemmas.{align_pos, fields_align_pos, payloads_align_pos, count_plain, align_plain}
use Rattle.cm_layout.proofs.SizeLemmas.{is_place}

-- each field stands at the least multiple of its alignment that is not below the end of what is before it
pub field_is_placed : (fs : Fields) (at n : ℕ) → n < field_count fs → IsLeastMultiple (align_of (field_type fs n)) (end_before fs at n) (field_offset_from fs at n)
field_is_placed no_fields at n lt = absurd (omega arith)
field_is_placed (field l t fs) at zero lt = is_place (align_of t) at (align_pos t)
field_is_placed (field l t fs) at (suc zero) lt = field_is_placed fs (align_to (align_of t) at + size_of t) zero (omega arith)
field_is_placed (field l t fs) at (suc (suc n)) lt = field_is_placed fs (align_to (align_of t) at + size_of t) (suc n) (omega arith)

pub count_fields : (fs : List Field) → field_count (fields_of fs) ≡ length fs
count_fields fs = count_from (map field_of fs) ∙ length-map fs field_of
  where
    count_from : (fs : List TypedLabel) → field_count (fields_from fs) ≡ length fs
    count_from [] = refl
    count_from (f ∷ fs) = ap suc (count_from fs)

pub count_parts : (ts : List TypeNode) → field_count (parts_of ts) ≡ length ts
count_parts ts = count_from (map type_of ts) ∙ length-map ts type_of
  where
    count_from : (ts : List Ty) → field_count (parts_from ts) ≡ length ts
    count_from [] = refl
    count_from (t ∷ ts) = ap suc (count_from ts)

-- field n stands behind the fields before it
pub field_place_is : (fs : List Field) (at n : ℕ) (x : Field) → n < length fs → x ≡ get_or fs n x → field_offset_from (fields_of fs) at n ≡ align_to (align_of (field_of x).1) (end_of (fields_of (take n fs)) at)
field_place_is [] at n x lt e = absurd (omega arith)
field_place_is (f ∷ fs) at zero x lt e = ap (λ y. align_to (align_of (field_of y).1) at) (sym e)
field_place_is (f ∷ fs) at (suc n) x lt e = field_place_is fs (align_to (align_of (field_of f).1) at + size_of (field_of f).1) n x (omega arith) e

pub part_place_is : (ts : List TypeNode) (at n : ℕ) (x : TypeNode) → n < length ts → x ≡ get_or ts n x → field_offset_from (parts_of ts) at n ≡ align_to (align_of (type_of x)) (end_of (parts_of (take n ts)) at)
part_place_is [] at n x lt e = absurd (omega arith)
part_place_is (t ∷ ts) at zero x lt e = ap (λ y. align_to (align_of (type_of y)) at) (sym e)
part_place_is (t ∷ ts) at (suc n) x lt e = part_place_is ts (align_to (align_of (type_of t)) at + size_of (type_of t)) n x (omega arith) e

-- the fields before n have no more nodes than all have
pub fields_before : (fs : List Field) (n : ℕ) → nodes_of_fields (fields_of (take n fs)) ≤ nodes_of_fields (fields_of fs)
fields_before [] zero = omega arith
fields_before [] (suc n) = omega arith
fields_before (f ∷ fs) zero = omega arith
fields_before (f ∷ fs) (suc n) = omega (arith, fields_before fs n)

pub parts_before : (ts : List TypeNode) (n : ℕ) → nodes_of_fields (parts_of (take n ts)) ≤ nodes_of_fields (parts_of ts)
parts_before [] zero = omega arith
parts_before [] (suc n) = omega arith
parts_before (t ∷ ts) zero = omega arith
parts_before (t ∷ ts) (suc n) = omega (arith, parts_before ts n)

-- the fields before n, and field n, have no more nodes than all have
pub fields_up_to : (fs : List Field) (n : ℕ) (x : Field) → n < length fs → x ≡ get_or fs n x → nodes_of_fields (fields_of (take n fs)) + nodes_of (field_of x).1 ≤ nodes_of_fields (fields_of fs)
fields_up_to [] n x lt e = absurd (omega arith)
fields_up_to (f ∷ fs) zero x lt e = let g : nodes_of (field_of x).1 ≡ nodes_of (field_of f).1 = ap (λ (y : Field). nodes_of (field_of y).1) e in omega arith
fields_up_to (f ∷ fs) (suc n) x lt e = omega (arith, fields_up_to fs n x (omega arith) e)

pub parts_up_to : (ts : List TypeNode) (n : ℕ) (x : TypeNode) → n < length ts → x ≡ get_or ts n x → nodes_of_fields (parts_of (take n ts)) + nodes_of (type_of x) ≤ nodes_of_fields (parts_of ts)
parts_up_to [] n x lt e = absurd (omega arith)
parts_up_to (t ∷ ts) zero x lt e = let g : nodes_of (type_of x) ≡ nodes_of (type_of t) = ap (λ (y : TypeNode). nodes_of (type_of y)) e in omega arith
parts_up_to (t ∷ ts) (suc n) x lt e = omega (arith, parts_up_to ts n x (omega arith) e)

pub variant_offset : (cs : Cases) (r d a : ℕ) → r ≡ align_to a d → d ≡ discriminant_size (case_count cs) → a ≡ align_of_payloads cs → r ≡ payload_offset cs
variant_offset cs r d a e f g = e ∙ rw (f, g) refl

pub discriminant_place : (n : ℕ) → discriminant_size n ≡ align_to 1 (discriminant_size n)
discriminant_place n = elim (cases_Bool (nat_le n 256)) [
  | inl y ↦ rw y refl
  | inr b ↦ elim (cases_Bool (nat_le n 65536)) [ inl y ↦ rw (b, y) refl | inr c ↦ rw (b, c) refl ]
]

pub enum_offset : (r n : ℕ) (ls : List (List ℕ)) → r ≡ discriminant_size n → n ≡ length ls → r ≡ payload_offset (plain_from ls)
enum_offset r n ls e f = rw (count_plain ls, align_plain ls) (e ∙ ap discriminant_size f ∙ discriminant_place (length ls))

-- ---- laws of whole types

pub field_law : (t : Ty) (n : ℕ) → HasField t n → IsLeastMultiple (align_of (field_type (fields_in t) n)) (end_before (fields_in t) 0 n) (field_offset t n)
field_law (fields k fs) n h = field_is_placed fs 0 n h
field_law _ n h = absurd h

pub payload_law : (t : Ty) → HasCases t → IsPayloadOffset t (case_offset t)
payload_law (cases k cs) h = is_place (align_of_payloads cs) (discriminant_size (case_count cs)) (payloads_align_pos cs)
payload_law _ h = absurd h

-- a size is a multiple of its alignment
abbrev pub IsMultiple : ℕ → ℕ → Type 0
IsMultiple a n = (k : ℕ) × (n ≡ k * a)

once : (n : ℕ) → IsMultiple n n
once n = (1, omega arith)

times : (n s a : ℕ) → IsMultiple a s → IsMultiple a (n * s)
times n s a m = (n * m.0, ap (λ x. n * x) m.1 ∙ sym (mul_assoc n m.0 a))

pub size_multiple : (t : Ty) → IsMultiple (align_of t) (size_of t)
size_multiple bool = once 1
size_multiple (signed w) = once (width_bytes w)
size_multiple (unsigned w) = once (width_bytes w)
size_multiple char = once 4
size_multiple string = (2, refl)
size_multiple (list t) = (2, refl)
size_multiple (fixed_list t n) = times n (size_of t) (align_of t) (size_multiple t)
size_multiple (fields k fs) = (is_place (align_of_fields fs) (end_of fs 0) (fields_align_pos fs)).multiple
size_multiple (cases k cs) = (is_place (align_of (cases k cs)) (payload_offset cs + greatest_payload cs) (align_pos (cases k cs))).multiple
size_multiple (flags ls) = once (flags_size (length ls))
size_multiple (own r) = once 4
size_multiple (borrow r) = once 4

-- a size is the least multiple behind all that is held
pub whole_law : (t : Ty) → IsWholeSize t (size_of t)
whole_law (fields k fs) = is_place (align_of_fields fs) (end_of fs 0) (fields_align_pos fs)
whole_law (cases k cs) = is_place (align_of (cases k cs)) (payload_offset cs + greatest_payload cs) (align_pos (cases k cs))
whole_law _ = tt
