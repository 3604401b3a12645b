-- Places, and bounds on sizes by the number of nodes, so that no size overflows.
use Rattle.std.proofs.Common.{◌≡◌, ℕ, zero, suc, ◌+◌, ◌-◌, ◌*◌, ◌/◌, ◌≤◌, ◌<◌, max, List, [], ◌∷◌, length, Option, Some, None, nat_le, refl, ap, ◌∙◌, arith, inl, inr}
use Rattle.std.proofs.Math.Nat.{div-mul-le_self, lt-div-mul-add, mul-le-mul_left, mul-le-mul_right}
use Rattle.std.proofs.lemmas.Bool.{cases_Bool, cases_lt}
use Rattle.cm_types.specs.Types.{Ty, Fields, Cases, CasesKind, Width, bits_8, bits_16, bits_32, bits_64, width_bytes, bool, signed, unsigned, char, string, list, fixed_list, fields, cases, flags, own, borrow, no_fields, field, no_cases, plain, carrying}
use Rattle.cm_types.specs.TypeTrees.{case_before, plain_from}
use Rattle.cm_types.specs.Limits.{nodes_of, nodes_of_fields, nodes_of_cases, payload_nodes}
use Rattle.cm_layout.specs.Alignment.{align_to, IsLeastMultiple}
use Rattle.cm_layout.specs.Sizes.{align_of, align_of_fields, align_of_payloads, align_of_payload, case_count, discriminant_size, flags_size, size_of, end_of, greatest_payload, payload_offset, size_of_payload}
use Rattle.cm_layout.proofs.AlignLemmas.{align_pos, fields_align_pos, payloads_align_pos, discriminant_pos, flags_pos, count_before, count_of_cases, count_plain, align_before, align_plain, payload_align_pos}
use Rattle.cm_types.proofs.Nodes.{before_nodes}
use Rattle.cm_lemmas.proofs.Numbers.{times_least}

-- ---- places

pub place_above : (a e : ℕ) → 1 ≤ a → e ≤ align_to a e
place_above a e p =
    let z : 0 < a = omega arith in
    let h : e + (a - 1) < (e + (a - 1)) / a * a + a = lt-div-mul-add z in
    omega arith

pub place_near : (a e : ℕ) → 1 ≤ a → align_to a e ≤ e + (a - 1)
place_near a e p = div-mul-le_self (e + (a - 1)) a

below_next : (q a e j : ℕ) → 1 ≤ a → q * a ≤ e + (a - 1) → e ≤ j * a → j < q → ⊥
below_next q a e j p h k l =
    let m : suc j * a ≤ q * a = mul-le-mul_right a (omega arith) in
    omega arith

place_least : (a e j : ℕ) → 1 ≤ a → e ≤ j * a → align_to a e ≤ j * a
place_least a e j p h =
    let q = (e + (a - 1)) / a in
    let near : (e + (a - 1)) / a * a ≤ e + (a - 1) = div-mul-le_self (e + (a - 1)) a in
    elim (cases_lt j ((e + (a - 1)) / a)) [
      | inl lt ↦ absurd (below_next ((e + (a - 1)) / a) a e j p near h lt)
      | inr le ↦ mul-le-mul_right a le
    ]

-- a place is the least multiple that is not below the end
pub is_place : (a e : ℕ) → 1 ≤ a → IsLeastMultiple a e (align_to a e)
is_place a e p = record { multiple = ((e + (a - 1)) / a, refl); above = place_above a e p; least = λ j h. place_least a e j p h }

-- ---- bounds

width_small : (w : Width) → width_bytes w ≤ 8
width_small bits_8 = omega arith
width_small bits_16 = omega arith
width_small bits_32 = omega arith
width_small bits_64 = omega arith

flags_small : (n : ℕ) → flags_size n ≤ 4
flags_small n = elim (cases_Bool (nat_le n 8)) [
  | inl y ↦ rw y (omega arith)
  | inr b ↦ elim (cases_Bool (nat_le n 16)) [ inl y ↦ rw (b, y) (omega arith) | inr c ↦ rw (b, c) (omega arith) ]
]

pub discriminant_small : (n : ℕ) → discriminant_size n ≤ 4
discriminant_small n = elim (cases_Bool (nat_le n 256)) [
  | inl y ↦ rw y (omega arith)
  | inr b ↦ elim (cases_Bool (nat_le n 65536)) [ inl y ↦ rw (b, y) (omega arith) | inr c ↦ rw (b, c) (omega arith) ]
]

mutual
  pub align_small : (t : Ty) → align_of t ≤ 8
  align_small bool = omega arith
  align_small (signed w) = width_small w
  align_small (unsigned w) = width_small w
  align_small char = omega arith
  align_small string = omega arith
  align_small (list t) = omega arith
  align_small (fixed_list t n) = align_small t
  align_small (fields k fs) = fields_align_small fs
  align_small (cases k cs) = omega (arith, payloads_align_small cs, discriminant_small (case_count cs))
  align_small (flags ls) = omega (arith, flags_small (length ls))
  align_small (own r) = omega arith
  align_small (borrow r) = omega arith

  pub fields_align_small : (fs : Fields) → align_of_fields fs ≤ 8
  fields_align_small no_fields = omega arith
  fields_align_small (field l t fs) = omega (arith, align_small t, fields_align_small fs)

  pub payloads_align_small : (cs : Cases) → align_of_payloads cs ≤ 8
  payloads_align_small no_cases = omega arith
  payloads_align_small (plain l cs) = payloads_align_small cs
  payloads_align_small (carrying l t cs) = omega (arith, align_small t, payloads_align_small cs)

-- the place of a type is at most 7 above
pub place_of_type : (t : Ty) (e : ℕ) → align_to (align_of t) e ≤ e + 7
place_of_type t e = omega (arith, place_near (align_of t) e (align_pos t), align_small t, align_pos t)

pub repeated_small : (n s x : ℕ) → s + 7 ≤ 32 * x → n * s + 7 ≤ 32 * (1 + max n 1 * x)
repeated_small zero s x h = omega arith
repeated_small (suc m) s x h =
    let k : suc m * s ≤ suc m * (32 * x) = mul-le-mul_left (suc m) (omega arith) in
    let e : max (suc m) 1 ≡ suc m = omega arith in
    rw e (omega arith)

pub payload_offset_small : (cs : Cases) → payload_offset cs ≤ 11
payload_offset_small cs =
    omega (arith, place_near (align_of_payloads cs) (discriminant_size (case_count cs)) (payloads_align_pos cs), payloads_align_small cs, payloads_align_pos cs, discriminant_small (case_count cs))

mutual
  pub size_small : (t : Ty) → size_of t + 7 ≤ 32 * nodes_of t
  size_small bool = omega arith
  size_small (signed w) = omega (arith, width_small w)
  size_small (unsigned w) = omega (arith, width_small w)
  size_small char = omega arith
  size_small string = omega arith
  size_small (list t) = omega arith
  size_small (fixed_list t n) = repeated_small n (size_of t) (nodes_of t) (size_small t)
  size_small (fields k fs) = omega (arith, end_small fs 0, place_near (align_of_fields fs) (end_of fs 0) (fields_align_pos fs), fields_align_small fs, fields_align_pos fs)
  size_small (cases k cs) =
      omega (
        arith,
        payload_small cs,
        payload_offset_small cs,
        place_near (align_of (cases k cs)) (payload_offset cs + greatest_payload cs) (align_pos (cases k cs)),
        align_small (cases k cs),
        align_pos (cases k cs),
      )
  size_small (flags ls) = omega (arith, flags_small (length ls))
  size_small (own r) = omega arith
  size_small (borrow r) = omega arith

  pub end_small : (fs : Fields) (at : ℕ) → end_of fs at ≤ at + 32 * nodes_of_fields fs
  end_small no_fields at = omega arith
  end_small (field l t fs) at = omega (arith, end_small fs (align_to (align_of t) at + size_of t), place_of_type t at, size_small t)

  pub payload_small : (cs : Cases) → greatest_payload cs ≤ 32 * nodes_of_cases cs
  payload_small no_cases = omega arith
  payload_small (plain l cs) = payload_small cs
  payload_small (carrying l t cs) = omega (arith, size_small t, payload_small cs)

-- ---- what each arm answers

pub fixed_room : (u t v : Ty) (n s : ℕ) → u ≡ fixed_list t n → v ≡ t → s + 7 ≤ 32 * nodes_of v → n * s + 7 ≤ 32 * nodes_of u
fixed_room u t v n s e f h = rw e (repeated_small n s (nodes_of t) (rw (← f) h))

-- a variant, from its parts
pub variant_size_is : (k : CasesKind) (cs : Cases) (r d a b : ℕ) → r ≡ align_to (max d a) (align_to a d + b) → d ≡ discriminant_size (case_count cs) → a ≡ align_of_payloads cs → b ≡ greatest_payload cs → r ≡ size_of (cases k cs)
variant_size_is k cs r d a b e f g h = e ∙ rw (f, g, h) refl

pub greatest_before : (l : List ℕ) (o : Option Ty) (cs : Cases) → greatest_payload (case_before l o cs) ≡ max (size_of_payload o) (greatest_payload cs)
greatest_before l None cs = omega arith
greatest_before l (Some t) cs = refl

-- the two cases of a result
pub two_cases : (l m : List ℕ) (o p : Option Ty) → 1 ≡ discriminant_size (case_count (case_before l o (case_before m p no_cases)))
two_cases l m o p = rw (count_before l o (case_before m p no_cases), count_before m p no_cases) refl

pub two_aligns : (l m : List ℕ) (o p : Option Ty) (a b c : ℕ) → a ≡ max b c → b ≡ align_of_payload o → c ≡ align_of_payload p → a ≡ align_of_payloads (case_before l o (case_before m p no_cases))
two_aligns l m o p a b c e f g =
    rw (align_before l o (case_before m p no_cases), align_before m p no_cases) (omega (arith, payload_align_pos o, payload_align_pos p))

pub two_payloads : (l m : List ℕ) (o p : Option Ty) (a b c : ℕ) → a ≡ max b c → b ≡ size_of_payload o → c ≡ size_of_payload p → a ≡ greatest_payload (case_before l o (case_before m p no_cases))
two_payloads l m o p a b c e f g =
    rw (greatest_before l o (case_before m p no_cases), greatest_before m p no_cases) (omega arith)

pub two_nodes : (k : CasesKind) (l m : List ℕ) (o p : Option Ty) → nodes_of (cases k (case_before l o (case_before m p no_cases))) ≡ 1 + (payload_nodes o + payload_nodes p)
two_nodes k l m o p = rw (before_nodes l o (case_before m p no_cases), before_nodes m p no_cases) (omega arith)

-- an enum is as large as its discriminant
enum_place : (n : ℕ) → discriminant_size n ≡ align_to (max (discriminant_size n) 1) (align_to 1 (discriminant_size n) + 0)
enum_place n = elim (cases_Bool (nat_le n 256)) [
  | inl y ↦ rw y refl
  | inr b ↦ elim (cases_Bool (nat_le n 65536)) [ inl y ↦ rw (b, y) refl | inr c ↦ rw (b, c) refl ]
]

greatest_plain : (ls : List (List ℕ)) → greatest_payload (plain_from ls) ≡ 0
greatest_plain [] = refl
greatest_plain (l ∷ ls) = greatest_plain ls

pub enum_size : (k : CasesKind) (r n : ℕ) (ls : List (List ℕ)) → r ≡ discriminant_size n → n ≡ length ls → r ≡ size_of (cases k (plain_from ls))
enum_size k r n ls e f = rw (count_plain ls, align_plain ls, greatest_plain ls) (e ∙ ap discriminant_size f ∙ enum_place (length ls))

pub ruleset sizes = (align_pos, fields_align_pos, payloads_align_pos, align_small, fields_align_small, payloads_align_small, place_of_type, size_small, end_small, payload_small, times_least)
