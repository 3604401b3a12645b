-- The handles of a value, one part of it after another.
use Rattle.std.proofs.Common.{◌≡◌, ℕ, zero, suc, ◌+◌, ◌<◌, ◌≤◌, List, [], ◌∷◌, ◌++◌, length, map, drop, refl, sym, ap, ◌∙◌, arith, get_or, Some, None, Option}
use Rattle.std.proofs.lemmas.List.{append_assoc}
use Rattle.cm_types.specs.Types.{Ty, Fields, Cases, bool, signed, unsigned, char, string, list, fixed_list, fields, cases, flags, own, borrow, no_fields, field, no_cases, plain, carrying}
use Rattle.cm_types.specs.Values.{Val, Vals, no_vals, val, truth, signed_number, number, scalar, text, elements, parts, bare, bearing, flag_set, handle, AllVals, HasType, HaveTypes, IsCarriedCase}
use Rattle.cm_layout.specs.Alignment.{align_to}
use Rattle.cm_layout.specs.Layouts.{nothings, part_of}
use Rattle.cm_layout.specs.Shapes.{LayoutTy, Payloads, cases_shape, parts_at, parts_from, payload_before, payloads_from, payloads_of, shape_of_type}
use Rattle.cm_layout.specs.Sizes.{align_of, size_of}
use Rattle.cm_layout.specs.declared.layouts.Part.{Part as CodedPart}
use Rattle.cm_types.specs.ValueTrees.{value_of, values_of}
use Rattle.cm_types.specs.declared.values.Value.{Value}
use Rattle.cm_abi_model.specs.Receives.{HandleLeaf, leaves_each, leaves_in, leaves_in_fields, leaves_in_payload}
use Rattle.cm_abi_lower.specs.Leaves.{leaves_by, leaves_by_case, leaves_by_fields, leaves_by_payload}
use Rattle.cm_layout.proofs.LayoutsLaws.{parts_next}
use Rattle.cm_types.proofs.ValueTreesLaws.{values_next}

-- ---- values in a row

-- one more of some is there
turn : (done more rest total behind : List HandleLeaf) → behind ≡ done ++ more → done ++ (more ++ rest) ≡ total → behind ++ rest ≡ total
turn done more rest total behind is so = rw is (append_assoc done more rest ∙ so)

pub each_next : (P : Val → List HandleLeaf) (vs : List Value) (i : ℕ) (v : Value) (done behind total : List HandleLeaf)
    → i < length vs → v ≡ get_or vs i v → behind ≡ done ++ P (value_of v)
    → done ++ leaves_each P (values_of (drop i vs)) ≡ total
    → behind ++ leaves_each P (values_of (drop (i + 1) vs)) ≡ total
each_next P vs i v done behind total lt at is so =
    turn done (P (value_of v)) (leaves_each P (values_of (drop (i + 1) vs))) total behind is
    (ap (λ us. done ++ leaves_each P us) (sym (values_next vs i v lt at)) ∙ so)

pub fields_next : (ps : List CodedPart) (vs : List Value) (i : ℕ) (p : CodedPart) (v : Value) (done behind total : List HandleLeaf)
    → i < length ps → p ≡ get_or ps i p → i < length vs → v ≡ get_or vs i v → behind ≡ done ++ leaves_by (part_of p).1.shape (value_of v)
    → done ++ leaves_by_fields (parts_from (map part_of (drop i ps))) (values_of (drop i vs)) ≡ total
    → behind ++ leaves_by_fields (parts_from (map part_of (drop (i + 1) ps))) (values_of (drop (i + 1) vs)) ≡ total
fields_next ps vs i p v done behind total lt at lt_v at_v is so =
    turn done (leaves_by (part_of p).1.shape (value_of v)) (leaves_by_fields (parts_from (map part_of (drop (i + 1) ps))) (values_of (drop (i + 1) vs))) total behind is
    (let both : leaves_by_fields (parts_from (map part_of (drop i ps))) (values_of (drop i vs))
    ≡ leaves_by (part_of p).1.shape (value_of v) ++ leaves_by_fields (parts_from (map part_of (drop (i + 1) ps))) (values_of (drop (i + 1) vs)) =
    rw (parts_next ps i p lt at, values_next vs i v lt_v at_v) refl in
    ap (λ ls. done ++ ls) (sym both) ∙ so)

-- ---- cases

case_before_zero : (o : Option LayoutTy) (ps : Payloads) (v : Val) → leaves_by_case (payload_before o ps) zero v ≡ leaves_by_payload o v
case_before_zero None ps v = refl
case_before_zero (Some l) ps v = refl

case_before_suc : (o : Option LayoutTy) (ps : Payloads) (n : ℕ) (v : Val) → leaves_by_case (payload_before o ps) (suc n) v ≡ leaves_by_case ps n v
case_before_suc None ps n v = refl
case_before_suc (Some l) ps n v = refl

pub case_there : {X : Type 0} (f : X → Option LayoutTy) (xs : List X) (n : ℕ) (v : Val) (x : X) → n < length xs → x ≡ get_or xs n x
    → leaves_by_case (payloads_from (map f xs)) n v ≡ leaves_by_payload (f x) v
case_there f [] n v x lt is = absurd (omega arith)
case_there f (y ∷ xs) zero v x lt is = case_before_zero (f y) (payloads_from (map f xs)) v ∙ ap (λ z. leaves_by_payload (f z) v) (sym is)
case_there f (y ∷ xs) (suc n) v x lt is = case_before_suc (f y) (payloads_from (map f xs)) n v ∙ case_there f xs n v x (omega arith) is

pub case_past : {X : Type 0} (f : X → Option LayoutTy) (xs : List X) (n : ℕ) (v : Val) → length xs ≤ n → leaves_by_case (payloads_from (map f xs)) n v ≡ []
case_past f [] n v past = refl
case_past f (y ∷ xs) zero v past = absurd (omega arith)
case_past f (y ∷ xs) (suc n) v past = case_before_suc (f y) (payloads_from (map f xs)) n v ∙ case_past f xs n v (omega arith)

-- an enum's cases carry nothing
nothing_carried : (n i : ℕ) (v : Val) → leaves_by_case (nothings n) i v ≡ []
nothing_carried zero i v = refl
nothing_carried (suc n) zero v = refl
nothing_carried (suc n) (suc i) v = nothing_carried n i v

pub enum_leaves : (d n : ℕ) (v : Val) → leaves_by (cases_shape d d (nothings n)) v ≡ []
enum_leaves d n (truth b) = refl
enum_leaves d n (signed_number z) = refl
enum_leaves d n (number m) = refl
enum_leaves d n (scalar c) = refl
enum_leaves d n (text cs) = refl
enum_leaves d n (elements vs) = refl
enum_leaves d n (parts vs) = refl
enum_leaves d n (bare i) = refl
enum_leaves d n (bearing i v) = nothing_carried n i v
enum_leaves d n (flag_set m) = refl
enum_leaves d n (handle h) = refl

-- ---- a layout and its type tell the same handles

same_each : (S P : Val → List HandleLeaf) (Q : Val → Type 0) (vs : Vals) → ((v : Val) → Q v → S v ≡ P v) → AllVals Q vs → leaves_each S vs ≡ leaves_each P vs
same_each S P Q no_vals one all = refl
same_each S P Q (val v vs) one all = ap (λ ls. ls ++ leaves_each S vs) (one v all.0) ∙ ap (λ ls. P v ++ ls) (same_each S P Q vs one all.1)

mutual
  pub same_leaves : (t : Ty) (v : Val) → HasType t v → leaves_by (shape_of_type t) v ≡ leaves_in t v
  same_leaves bool (truth b) h = refl
  same_leaves (signed w) (signed_number z) h = refl
  same_leaves (unsigned w) (number n) h = refl
  same_leaves char (scalar c) h = refl
  same_leaves string (text cs) h = refl
  same_leaves (list t) (elements vs) h = same_each (leaves_by (shape_of_type t)) (leaves_in t) (HasType t) vs (same_leaves t) h
  same_leaves (fixed_list t n) (parts vs) h = same_each (leaves_by (shape_of_type t)) (leaves_in t) (HasType t) vs (same_leaves t) h.1
  same_leaves (fields k fs) (parts vs) h = same_fields fs 0 vs h
  same_leaves (cases k cs) (bare i) h = refl
  same_leaves (cases k cs) (bearing i v) h = same_case cs i v h
  same_leaves (flags ls) (flag_set n) h = refl
  same_leaves (own r) (handle e) h = refl
  same_leaves (borrow r) (handle e) h = refl
  same_leaves _ _ h = absurd h

  same_fields : (fs : Fields) (at : ℕ) (vs : Vals) → HaveTypes fs vs → leaves_by_fields (parts_from (parts_at fs at)) vs ≡ leaves_in_fields fs vs
  same_fields no_fields at vs h = refl
  same_fields (field l t fs) at no_vals h = absurd h
  same_fields (field l t fs) at (val v vs) h =
      ap (λ ls. ls ++ leaves_by_fields (parts_from (parts_at fs (align_to (align_of t) at + size_of t))) vs) (same_leaves t v h.0)
      ∙ ap (λ ls. leaves_in t v ++ ls) (same_fields fs (align_to (align_of t) at + size_of t) vs h.1)

  same_case : (cs : Cases) (i : ℕ) (v : Val) → IsCarriedCase cs i v → leaves_by_case (payloads_from (payloads_of cs)) i v ≡ leaves_in_payload cs i v
  same_case no_cases i v h = absurd h
  same_case (plain l cs) zero v h = absurd h
  same_case (plain l cs) (suc i) v h = same_case cs i v h
  same_case (carrying l t cs) zero v h = same_leaves t v h
  same_case (carrying l t cs) (suc i) v h = same_case cs i v h
