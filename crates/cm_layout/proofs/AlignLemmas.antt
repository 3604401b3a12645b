-- Alignments are positive, and what cases made from lists have.
use Rattle.std.proofs.Common.{◌≡◌, ℕ, suc, ◌≤◌, max, List, [], ◌∷◌, length, map, Option, Some, None, nat_le, refl, ap, ◌∙◌, arith, inl, inr}
use Rattle.std.proofs.lemmas.Bool.{cases_Bool}
use Rattle.std.proofs.lemmas.List.{length-map}
use Rattle.cm_types.specs.Types.{Ty, Fields, Cases, CasesKind, bool, signed, unsigned, char, string, list, fixed_list, fields, cases, flags, own, borrow, no_fields, field, no_cases, plain, carrying}
use Rattle.cm_types.specs.TypeTrees.{CaseOf, case_before, cases_from, plain_from, case_of, cases_of}
use Rattle.cm_types.specs.declared.type_trees.Case.{Case}
use Rattle.cm_layout.specs.Sizes.{align_of, align_of_fields, align_of_payloads, align_of_payload, case_count, discriminant_size, flags_size}
use Rattle.cm_types.proofs.TypesLaws.{width_some}

pub flags_pos : (n : ℕ) → 1 ≤ flags_size n
flags_pos n = elim (cases_Bool (nat_le n 8)) [
  | inl y ↦ rw y (omega arith)
  | inr b ↦ elim (cases_Bool (nat_le n 16)) [ inl y ↦ rw (b, y) (omega arith) | inr c ↦ rw (b, c) (omega arith) ]
]

pub discriminant_pos : (n : ℕ) → 1 ≤ discriminant_size n
discriminant_pos n = elim (cases_Bool (nat_le n 256)) [
  | inl y ↦ rw y (omega arith)
  | inr b ↦ elim (cases_Bool (nat_le n 65536)) [ inl y ↦ rw (b, y) (omega arith) | inr c ↦ rw (b, c) (omega arith) ]
]

pub fields_align_pos : (fs : Fields) → 1 ≤ align_of_fields fs
fields_align_pos no_fields = omega arith
fields_align_pos (field l t fs) = omega (arith, fields_align_pos fs)

pub payloads_align_pos : (cs : Cases) → 1 ≤ align_of_payloads cs
payloads_align_pos no_cases = omega arith
payloads_align_pos (plain l cs) = payloads_align_pos cs
payloads_align_pos (carrying l t cs) = omega (arith, payloads_align_pos cs)

pub align_pos : (t : Ty) → 1 ≤ align_of t
align_pos bool = omega arith
align_pos (signed w) = width_some w
align_pos (unsigned w) = width_some w
align_pos char = omega arith
align_pos string = omega arith
align_pos (list t) = omega arith
align_pos (fixed_list t n) = align_pos t
align_pos (fields k fs) = fields_align_pos fs
align_pos (cases k cs) = omega (arith, payloads_align_pos cs)
align_pos (flags ls) = flags_pos (length ls)
align_pos (own r) = omega arith
align_pos (borrow r) = omega arith

-- ---- cases from lists

pub count_before : (l : List ℕ) (o : Option Ty) (cs : Cases) → case_count (case_before l o cs) ≡ suc (case_count cs)
count_before l None cs = refl
count_before l (Some t) cs = refl

count_from : (cs : List CaseOf) → case_count (cases_from cs) ≡ length cs
count_from [] = refl
count_from (c ∷ cs) = count_before c.0 c.1 (cases_from cs) ∙ ap suc (count_from cs)

pub count_of_cases : (cs : List Case) → case_count (cases_of cs) ≡ length cs
count_of_cases cs = count_from (map case_of cs) ∙ length-map cs case_of

pub count_plain : (ls : List (List ℕ)) → case_count (plain_from ls) ≡ length ls
count_plain [] = refl
count_plain (l ∷ ls) = ap suc (count_plain ls)

pub align_before : (l : List ℕ) (o : Option Ty) (cs : Cases) → align_of_payloads (case_before l o cs) ≡ max (align_of_payload o) (align_of_payloads cs)
align_before l None cs = omega (arith, payloads_align_pos cs)
align_before l (Some t) cs = refl

pub align_plain : (ls : List (List ℕ)) → align_of_payloads (plain_from ls) ≡ 1
align_plain [] = refl
align_plain (l ∷ ls) = align_plain ls

pub payload_align_pos : (o : Option Ty) → 1 ≤ align_of_payload o
payload_align_pos None = omega arith
payload_align_pos (Some t) = align_pos t

-- ---- what each arm answers

pub variant_align : (k : CasesKind) (r d n p : ℕ) (q cs : List Case) → r ≡ max d p → d ≡ discriminant_size n → n ≡ length cs → p ≡ align_of_payloads (cases_of q) → q ≡ cs → r ≡ align_of (cases k (cases_of cs))
variant_align k r d n p q cs e f g h i = e ∙ rw (f, g, h, i, count_of_cases cs) refl

pub enum_align : (k : CasesKind) (r n : ℕ) (ls : List (List ℕ)) → r ≡ discriminant_size n → n ≡ length ls → r ≡ align_of (cases k (plain_from ls))
enum_align k r n ls e f = rw (count_plain ls, align_plain ls) (e ∙ ap discriminant_size f ∙ omega (arith, discriminant_pos (length ls)))

pub option_align : (k : CasesKind) (r : ℕ) (l m : List ℕ) (t u : Ty) → r ≡ align_of t → t ≡ u → r ≡ align_of (cases k (plain l (carrying m u no_cases)))
option_align k r l m t u e f = e ∙ ap align_of f ∙ omega (arith, align_pos u)

pub result_align : (k : CasesKind) (r a b : ℕ) (l m : List ℕ) (o p : Option Ty) → r ≡ max a b → a ≡ align_of_payload o → b ≡ align_of_payload p → r ≡ align_of (cases k (case_before l o (case_before m p no_cases)))
result_align k r a b l m o p e f g =
    rw (count_before l o (case_before m p no_cases), count_before m p no_cases, align_before l o (case_before m p no_cases), align_before m p no_cases)
    (omega (arith, payload_align_pos o, payload_align_pos p))

pub ruleset aligns = (align_pos, fields_align_pos, payloads_align_pos)
