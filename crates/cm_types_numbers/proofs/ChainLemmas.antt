-- Chains of the code's fields and cases, from their end.
use Rattle.std.proofs.Common.{◌≡◌, ℕ, zero, suc, ◌+◌, ◌-◌, ◌<◌, ◌≤◌, List, [], ◌∷◌, length, map, drop, get_or, Option, Some, None, refl, sym, ap, subst, ◌∙◌, arith}
use Rattle.std.specs.Option.{option_map}
use Rattle.cm_types.specs.TypeTrees.{type_of, field_of, case_of, fields_of, cases_of, parts_from, case_before}
use Rattle.cm_types.specs.Types.{Ty, Fields, Cases, plain, carrying}
use Rattle.cm_types.specs.declared.type_trees.TypeNode.{TypeNode}
use Rattle.cm_types.specs.declared.type_trees.Field.{Field, out-Field}
use Rattle.cm_types.specs.declared.type_trees.Case.{Case, out-Case}
use Rattle.cm_types_arena.specs.Arena.{field_types, payload_types}
use Rattle.cm_types_arena.specs.Replaced.{Standing, replaced, replaced_fields, replaced_cases}
use Rattle.cm_types_numbers.specs.declared.key.Key.TheVariants as key
use Rattle.cm_types_numbers.specs.declared.key.Leaf.TheVariants as leaf
use Rattle.cm_types_numbers.specs.Numbering.{Numbering, number, number_fields, number_cases, Extends, AreNumbers, HasNumber}
use Rattle.cm_types_numbers.proofs.Steps.{from_here, field_step}
use Rattle.cm_types.proofs.TypeTreesLaws.{seen_case_label, seen_label}
use Rattle.cm_types.proofs.Seen.{seen_case}

-- the types of the parts of a tuple
pub parts_are : (ts : List Ty) → field_types (parts_from ts) ≡ ts
parts_are [] = refl
parts_are (t ∷ ts) = ap (λ us. t ∷ us) (parts_are ts)

module _ (start t u v : Numbering) (a : Extends start t) (b : Extends t u) (c : Extends u v) where
  pub field_before : (s : Standing) (fs : List Field) (ns : List ℕ) (i : ℕ) (f : Field) (m : ℕ) → 0 < i → i - 1 < length fs → f ≡ get_or fs (i - 1) f → i - 1 < length ns → m ≡ get_or ns (i - 1) 0
      → (text : List ℕ) (others label n : ℕ) → text ≡ (out-Field f).label
      → (AreNumbers start s (field_types (fields_of (drop i fs))) (drop i ns) → number_fields t (replaced_fields s (fields_of (drop i fs))) ≡ Some others)
      → u.label text ≡ Some label → v.node (key.Field label m others) ≡ Some n
      → AreNumbers start s (field_types (fields_of (drop (i - 1) fs))) (drop (i - 1) ns) → number_fields v (replaced_fields s (fields_of (drop (i - 1) fs))) ≡ Some n
  field_before s fs ns i f m some lt is there at text others label n same h p k are =
      let here = from_here fs i f f some lt is in
      let numbers = from_here ns i m 0 some there at in
      let first : AreNumbers start s (field_types (fields_of (f ∷ drop i fs))) (drop (i - 1) ns) = subst (λ (xs : List Field). AreNumbers start s (field_types (fields_of xs)) (drop (i - 1) ns)) here are in
      let both : AreNumbers start s (field_types (fields_of (f ∷ drop i fs))) (m ∷ drop i ns) = subst (λ (ms : List ℕ). AreNumbers start s (field_types (fields_of (f ∷ drop i fs))) ms) numbers first in
      ap (λ (xs : List Field). number_fields v (replaced_fields s (fields_of xs))) here
      ∙ field_step start t u v a b c s (field_of f).0 (field_of f).1 (fields_of (drop i fs)) m (drop i ns) others label n h (ap u.label (seen_label f ∙ sym same) ∙ p) k both

  -- of a tuple the numbers alone are known
  pub part_before : (s : Standing) (ts : List Ty) (ns : List ℕ) (i m : ℕ) → 0 < i → i - 1 < length ns → m ≡ get_or ns (i - 1) 0
      → (others label n : ℕ) → ((us : List Ty) → AreNumbers start s us (drop i ns) → number_fields t (replaced_fields s (parts_from us)) ≡ Some others)
      → u.label [] ≡ Some label → v.node (key.Field label m others) ≡ Some n
      → AreNumbers start s ts (drop (i - 1) ns) → number_fields v (replaced_fields s (parts_from ts)) ≡ Some n
  part_before s [] ns i m some there at others label n h p k are =
      let here : map (λ x. number start (replaced s x)) [] ≡ map Some (m ∷ drop i ns) = subst (λ (ms : List ℕ). AreNumbers start s [] ms) (from_here ns i m 0 some there at) are in
      absurd cc
  part_before s (x ∷ ts) ns i m some there at others label n h p k are =
      let here : AreNumbers start s (x ∷ ts) (m ∷ drop i ns) = subst (λ (ms : List ℕ). AreNumbers start s (x ∷ ts) ms) (from_here ns i m 0 some there at) are in
      let shown : AreNumbers start s (x ∷ field_types (parts_from ts)) (m ∷ drop i ns) = subst (λ (us : List Ty). AreNumbers start s (x ∷ us) (m ∷ drop i ns)) (sym (parts_are ts)) here in
      field_step start t u v a b c s [] x (parts_from ts) m (drop i ns) others label n
      (λ e. h ts (subst (λ (us : List Ty). AreNumbers start s us (drop i ns)) (parts_are ts) e)) p k shown

-- the cases from one place on
pub cases_here : (cs : List Case) (i : ℕ) (c : Case) → 0 < i → i - 1 < length cs → c ≡ get_or cs (i - 1) c
    → cases_of (drop (i - 1) cs) ≡ case_before (out-Case c).label (option_map type_of (out-Case c).payload) (cases_of (drop i cs))
cases_here cs i c some lt is =
    ap cases_of (from_here cs i c c some lt is)
    ∙ ap (λ (l : List ℕ). case_before l (case_of c).1 (cases_of (drop i cs))) (seen_case_label c)
    ∙ ap (λ (o : Option Ty). case_before (out-Case c).label o (cases_of (drop i cs))) (seen_case c)

pub plain_here : (cs : List Case) (i : ℕ) (c : Case) (text : List ℕ) → 0 < i → i - 1 < length cs → c ≡ get_or cs (i - 1) c → text ≡ (out-Case c).label → (out-Case c).payload ≡ None
    → cases_of (drop (i - 1) cs) ≡ plain text (cases_of (drop i cs))
plain_here cs i c text some lt is same none =
    cases_here cs i c some lt is
    ∙ ap (λ (o : Option TypeNode). case_before (out-Case c).label (option_map type_of o) (cases_of (drop i cs))) none
    ∙ ap (λ (l : List ℕ). plain l (cases_of (drop i cs))) (sym same)

pub carrying_here : (cs : List Case) (i : ℕ) (c : Case) (text : List ℕ) (x : TypeNode) → 0 < i → i - 1 < length cs → c ≡ get_or cs (i - 1) c → text ≡ (out-Case c).label → (out-Case c).payload ≡ Some x
    → cases_of (drop (i - 1) cs) ≡ carrying text (type_of x) (cases_of (drop i cs))
carrying_here cs i c text x some lt is same one =
    cases_here cs i c some lt is
    ∙ ap (λ (o : Option TypeNode). case_before (out-Case c).label (option_map type_of o) (cases_of (drop i cs))) one
    ∙ ap (λ (l : List ℕ). carrying l (type_of x) (cases_of (drop i cs))) (sym same)

before_more : (l : List ℕ) (o : Option Ty) (cs : Cases) → length (payload_types cs) ≤ length (payload_types (case_before l o cs))
before_more l None cs = omega arith
before_more l (Some x) cs = omega arith

-- from one place on there are not more payloads than in all
pub few : (cs : List Case) (i : ℕ) → length (payload_types (cases_of (drop i cs))) ≤ length (payload_types (cases_of cs))
few [] zero = omega arith
few [] (suc i) = omega arith
few (c ∷ cs) zero = omega arith
few (c ∷ cs) (suc i) = omega (arith, few cs i, before_more (case_of c).0 (case_of c).1 (cases_of cs))

-- as many are left as belong to the cases before
pub left_plain : (D R : Cases) (text : List ℕ) (left all : ℕ) → D ≡ plain text R → left + length (payload_types R) ≡ all → left + length (payload_types D) ≡ all
left_plain D R text left all e h = let l = ap (λ (C : Cases). length (payload_types C)) e in omega (arith, l, h)

pub left_some : (cs : List Case) (i : ℕ) (R : Cases) (text : List ℕ) (x : Ty) (left all : ℕ) → cases_of (drop (i - 1) cs) ≡ carrying text x R → all ≡ length (payload_types (cases_of cs)) → left + length (payload_types R) ≡ all
    → (0 < left) × (left - 1 < all) × (left - 1 + length (payload_types (cases_of (drop (i - 1) cs))) ≡ all)
left_some cs i R text x left all e total h =
    let l : length (payload_types (cases_of (drop (i - 1) cs))) ≡ suc (length (payload_types R)) = ap (λ (C : Cases). length (payload_types C)) e in
    let f = few cs (i - 1) in
    (omega (arith, l, f, total, h), omega (arith, l, f, total, h), omega (arith, l, f, total, h))

none_left : (ns : List ℕ) → drop (length ns) ns ≡ []
none_left [] = refl
none_left (n ∷ ns) = none_left ns

-- before any part of a tuple is numbered
pub no_parts_yet : (start t : Numbering) (s : Standing) (ts : List Ty) (ns : List ℕ) (n : ℕ) → t.node (key.Leaf leaf.NoFields) ≡ Some n → AreNumbers start s ts (drop (length ns) ns) → number_fields t (replaced_fields s (parts_from ts)) ≡ Some n
no_parts_yet start t s [] ns n h are = h
no_parts_yet start t s (x ∷ ts) ns n h are =
    let here : map (λ y. number start (replaced s y)) (x ∷ ts) ≡ map Some [] = subst (λ (ms : List ℕ). AreNumbers start s (x ∷ ts) ms) (none_left ns) are in
    absurd cc
