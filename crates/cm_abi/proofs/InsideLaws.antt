-- The parts of a value that fits lie inside.
use Rattle.std.proofs.Common.{◌≡◌, ℕ, zero, suc, ◌+◌, ◌≤◌, List, [], ◌∷◌, ◌++◌, length, refl, subst, arith, length-append}
use Rattle.cm_types.specs.Types.{Ty, Fields, Cases, bool, signed, unsigned, char, string, list, fixed_list, fields, cases, flags, own, borrow, no_fields, field, no_cases, plain, carrying}
use Rattle.cm_types.specs.Values.{Val, Vals, no_vals, val, truth, signed_number, number, scalar, text, elements, parts, bare, bearing, flag_set, handle, AllVals, HasType, HaveTypes, IsCarriedCase}
use Rattle.cm_layout.specs.Alignment.{align_to}
use Rattle.cm_layout.specs.Shapes.{parts_at, parts_from, payloads_from, payloads_of, shape_of_type}
use Rattle.cm_layout.specs.Sizes.{align_of, size_of}
use Rattle.cm_abi_model.specs.declared.encoding.StringEncoding.{StringEncoding}
use Rattle.cm_abi_model.specs.Parts.{Part, handle_count, part_count, part_count_each, parts_each, parts_in, parts_in_fields, parts_in_payload}
use Rattle.cm_abi_model.specs.Requests.{stored_charset, text_bytes}
use Rattle.cm_abi_model.specs.Stores.{Given, place_of}
use Rattle.cm_abi_store.specs.Fitting.{FitEach, FitFields, Fits, FitsCase}
use Rattle.cm_abi.specs.Inside.{AreInside}
use Rattle.cm_abi_model.proofs.PartsLaws.{each_counted}

-- ---- how many parts

mutual
  pub counted : (t : Ty) (v : Val) → HasType t v → length (parts_in t v) ≡ part_count v
  counted bool (truth b) typed = refl
  counted (signed w) (signed_number z) typed = refl
  counted (unsigned w) (number n) typed = refl
  counted char (scalar c) typed = refl
  counted string (text cs) typed = refl
  counted (list t) (elements vs) typed = let rest = each_counted (parts_in t) (HasType t) vs (counted t) typed in omega (arith, rest)
  counted (fixed_list t n) (parts vs) typed = each_counted (parts_in t) (HasType t) vs (counted t) typed.1
  counted (fields kind fs) (parts vs) typed = counted_fields fs vs typed
  counted (cases kind cs) (bare i) typed = refl
  counted (cases kind cs) (bearing i v) typed = counted_case cs i v typed
  counted (flags ls) (flag_set n) typed = refl
  counted (own r) (handle e) typed = refl
  counted (borrow r) (handle e) typed = refl
  counted _ _ typed = absurd typed

  counted_fields : (fs : Fields) (vs : Vals) → HaveTypes fs vs → length (parts_in_fields fs vs) ≡ part_count_each vs
  counted_fields no_fields no_vals typed = refl
  counted_fields no_fields (val v vs) typed = absurd typed
  counted_fields (field l t fs) no_vals typed = absurd typed
  counted_fields (field l t fs) (val v vs) typed = omega (arith, length-append (parts_in t v) (parts_in_fields fs vs), counted t v typed.0, counted_fields fs vs typed.1)

  counted_case : (cs : Cases) (i : ℕ) (v : Val) → IsCarriedCase cs i v → length (parts_in_payload cs i v) ≡ part_count v
  counted_case no_cases i v typed = absurd typed
  counted_case (plain l cs) zero v typed = absurd typed
  counted_case (plain l cs) (suc i) v typed = counted_case cs i v typed
  counted_case (carrying l t cs) zero v typed = counted t v typed
  counted_case (carrying l t cs) (suc i) v typed = counted_case cs i v typed

-- ---- regions

module _ (target : StringEncoding) (n : ℕ) (g : Given) (is : g.charset ≡ stored_charset target) where
  inside_both : (k : ℕ) (ps qs : List Part) (j : ℕ) → j ≡ k + length ps → AreInside target n g k ps → AreInside target n g j qs → AreInside target n g k (ps ++ qs)
  inside_both k [] qs j at front back = subst (λ i. AreInside target n g i qs) (omega (arith, at)) back
  inside_both k (p ∷ ps) qs j at front back = (front.0, inside_both (k + 1) ps qs j (omega (arith, at)) front.1 back)

  each_inside : (P : Val → List Part) (F : Val → ℕ → ℕ → Type 0) (Q : Val → Type 0) (vs : Vals) (k h : ℕ) → ((v : Val) → Q v → length (P v) ≡ part_count v)
      → ((v : Val) (k h : ℕ) → Q v → F v k h → AreInside target n g k (P v)) → AllVals Q vs → FitEach F vs k h → AreInside target n g k (parts_each P vs)
  each_inside P F Q no_vals k h size one all fits = tt
  each_inside P F Q (val v vs) k h size one all fits =
      inside_both k (P v) (parts_each P vs) (k + part_count v) (omega (arith, size v all.0)) (one v k h all.0 fits.0)
      (each_inside P F Q vs (k + part_count v) (h + handle_count v) size one all.1 fits.1)

  mutual
    pub value_inside : (t : Ty) (v : Val) (k h : ℕ) → HasType t v → Fits n g (shape_of_type t) v k h → AreInside target n g k (parts_in t v)
    value_inside bool (truth b) k h typed fits = tt
    value_inside (signed w) (signed_number z) k h typed fits = tt
    value_inside (unsigned w) (number m) k h typed fits = tt
    value_inside char (scalar c) k h typed fits = tt
    value_inside string (text cs) k h typed fits = (subst (λ s. place_of g k + length (text_bytes s cs) ≤ n) is fits.1, tt)
    value_inside (list t) (elements vs) k h typed fits =
        (fits.0.1, each_inside (parts_in t) (Fits n g (shape_of_type t)) (HasType t) vs (k + 1) h (counted t) (value_inside t) typed fits.1)
    value_inside (fixed_list t c) (parts vs) k h typed fits = each_inside (parts_in t) (Fits n g (shape_of_type t)) (HasType t) vs k h (counted t) (value_inside t) typed.1 fits.1
    value_inside (fields kind fs) (parts vs) k h typed fits = fields_inside fs 0 vs k h typed fits
    value_inside (cases kind cs) (bare i) k h typed fits = tt
    value_inside (cases kind cs) (bearing i v) k h typed fits = case_inside cs i v k h typed fits
    value_inside (flags ls) (flag_set m) k h typed fits = tt
    value_inside (own r) (handle e) k h typed fits = tt
    value_inside (borrow r) (handle e) k h typed fits = tt
    value_inside _ _ k h typed fits = absurd typed

    fields_inside : (fs : Fields) (end : ℕ) (vs : Vals) (k h : ℕ) → HaveTypes fs vs → FitFields n g (parts_from (parts_at fs end)) vs k h → AreInside target n g k (parts_in_fields fs vs)
    fields_inside no_fields end no_vals k h typed fits = tt
    fields_inside no_fields end (val v vs) k h typed fits = absurd typed
    fields_inside (field l t fs) end no_vals k h typed fits = absurd typed
    fields_inside (field l t fs) end (val v vs) k h typed fits =
        inside_both k (parts_in t v) (parts_in_fields fs vs) (k + part_count v) (omega (arith, counted t v typed.0)) (value_inside t v k h typed.0 fits.0)
        (fields_inside fs (align_to (align_of t) end + size_of t) vs (k + part_count v) (h + handle_count v) typed.1 fits.1)

    case_inside : (cs : Cases) (i : ℕ) (v : Val) (k h : ℕ) → IsCarriedCase cs i v → FitsCase n g (payloads_from (payloads_of cs)) i v k h → AreInside target n g k (parts_in_payload cs i v)
    case_inside no_cases i v k h typed fits = absurd typed
    case_inside (plain l cs) zero v k h typed fits = absurd typed
    case_inside (plain l cs) (suc i) v k h typed fits = case_inside cs i v k h typed fits
    case_inside (carrying l t cs) zero v k h typed fits = value_inside t v k h typed fits
    case_inside (carrying l t cs) (suc i) v k h typed fits = case_inside cs i v k h typed fits
