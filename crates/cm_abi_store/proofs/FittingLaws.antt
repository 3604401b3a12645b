-- A value fits where each of its parts has a place, and each of its handles a number.
use Rattle.std.proofs.Common.{◌≡◌, ℕ, zero, suc, ◌+◌, ◌≤◌, List, [], ◌∷◌, ◌++◌, length, refl, arith, length-append}
use Rattle.cm_types.specs.Types.{Ty, Fields, Cases, bool, signed, unsigned, char, string, list, fixed_list, fields, cases, flags, own, borrow, no_fields, field, no_cases, plain, carrying}
use Rattle.cm_types.specs.Values.{Val, Vals, no_vals, val, truth, signed_number, number, scalar, text, elements, parts, bare, bearing, flag_set, handle, AllVals, HasType, HaveTypes, IsCarriedCase}
use Rattle.cm_layout.specs.Alignment.{align_to}
use Rattle.cm_layout.specs.Shapes.{parts_at, parts_from, payloads_from, payloads_of, shape_of_type}
use Rattle.cm_layout.specs.Sizes.{align_of, size_of}
use Rattle.cm_abi_model.specs.declared.encoding.StringEncoding.{StringEncoding}
use Rattle.cm_abi_model.specs.Parts.{Part, handle_count, handle_count_each, part_count, part_count_each, parts_each, parts_in, parts_in_fields, parts_in_payload}
use Rattle.cm_abi_model.specs.Regions.{ArePlaced}
use Rattle.cm_abi_model.specs.Requests.{stored_charset}
use Rattle.cm_abi_model.specs.Stores.{Given}
use Rattle.cm_abi_store.specs.Fitting.{FitEach, FitFields, Fits, FitsCase}
use Rattle.cm_abi_model.proofs.PartsLaws.{each_counted}

-- ---- how many parts

mutual
  pub counted : (t : Ty) (v : Val) → HasType t v → length (parts_in t v) ≡ part_count v
  counted bool (truth b) typed = refl
  counted (signed w) (signed_number z) typed = refl
  counted (unsigned w) (number n) typed = refl
  counted char (scalar c) typed = refl
  counted string (text cs) typed = refl
  counted (list t) (elements vs) typed = let rest = each_counted (parts_in t) (HasType t) vs (counted t) typed in omega (arith, rest)
  counted (fixed_list t n) (parts vs) typed = each_counted (parts_in t) (HasType t) vs (counted t) typed.1
  counted (fields kind fs) (parts vs) typed = counted_fields fs vs typed
  counted (cases kind cs) (bare i) typed = refl
  counted (cases kind cs) (bearing i v) typed = counted_case cs i v typed
  counted (flags ls) (flag_set n) typed = refl
  counted (own r) (handle e) typed = refl
  counted (borrow r) (handle e) typed = refl
  counted _ _ typed = absurd typed

  counted_fields : (fs : Fields) (vs : Vals) → HaveTypes fs vs → length (parts_in_fields fs vs) ≡ part_count_each vs
  counted_fields no_fields no_vals typed = refl
  counted_fields no_fields (val v vs) typed = absurd typed
  counted_fields (field l t fs) no_vals typed = absurd typed
  counted_fields (field l t fs) (val v vs) typed =
      let first = counted t v typed.0 in
      let rest = counted_fields fs vs typed.1 in
      omega (arith, length-append (parts_in t v) (parts_in_fields fs vs), first, rest)

  counted_case : (cs : Cases) (i : ℕ) (v : Val) → IsCarriedCase cs i v → length (parts_in_payload cs i v) ≡ part_count v
  counted_case no_cases i v typed = absurd typed
  counted_case (plain l cs) zero v typed = absurd typed
  counted_case (plain l cs) (suc i) v typed = counted_case cs i v typed
  counted_case (carrying l t cs) zero v typed = counted t v typed
  counted_case (carrying l t cs) (suc i) v typed = counted_case cs i v typed

-- ---- places

module _ (target : StringEncoding) (n : ℕ) (g : Given) (is : g.charset ≡ stored_charset target) where
  pub placed_both : (k : ℕ) (ps qs : List Part) (j : ℕ) → j ≡ k + length ps → ArePlaced target n g k (ps ++ qs) → ArePlaced target n g k ps × ArePlaced target n g j qs
  placed_both k [] qs j at placed =
      let same : j ≡ k = omega (arith, at) in
      (tt, rw same placed)
  placed_both k (p ∷ ps) qs j at placed =
      let rest = placed_both (k + 1) ps qs j (omega (arith, at)) placed.1 in
      ((placed.0, rest.0), rest.1)

  -- a value of these parts fits
  FitsBy : (Val → List Part) → (Val → ℕ → ℕ → Type 0) → Val → Type 0
  FitsBy P F v = (k h : ℕ) → ArePlaced target n g k (P v) → k + part_count v ≤ length g.places → h + handle_count v ≤ length g.numbers → F v k h

  each_fits : (P : Val → List Part) (F : Val → ℕ → ℕ → Type 0) (Q : Val → Type 0) (vs : Vals) (k h : ℕ)
      → ((v : Val) → Q v → length (P v) ≡ part_count v) → ((v : Val) (k h : ℕ) → Q v → ArePlaced target n g k (P v) → k + part_count v ≤ length g.places → h + handle_count v ≤ length g.numbers → F v k h)
      → AllVals Q vs → ArePlaced target n g k (parts_each P vs) → k + part_count_each vs ≤ length g.places → h + handle_count_each vs ≤ length g.numbers → FitEach F vs k h
  each_fits P F Q no_vals k h size one all placed room handles = tt
  each_fits P F Q (val v vs) k h size one all placed room handles =
      let count = size v all.0 in
      let both = placed_both k (P v) (parts_each P vs) (k + part_count v) (omega (arith, count)) placed in (
        one v k h all.0 both.0 (omega (arith, room)) (omega (arith, handles)),
        each_fits P F Q vs (k + part_count v) (h + handle_count v) size one all.1 both.1 (omega (arith, room)) (omega (arith, handles)),
      )

  mutual
    pub value_fits : (t : Ty) (v : Val) (k h : ℕ) → HasType t v → ArePlaced target n g k (parts_in t v) → k + part_count v ≤ length g.places → h + handle_count v ≤ length g.numbers
        → Fits n g (shape_of_type t) v k h
    value_fits bool (truth b) k h typed placed room handles = (refl, refl)
    value_fits (signed w) (signed_number z) k h typed placed room handles = (refl, refl)
    value_fits (unsigned w) (number m) k h typed placed room handles = (refl, refl)
    value_fits char (scalar c) k h typed placed room handles = (refl, refl)
    value_fits string (text cs) k h typed placed room handles = (omega (arith, room), rw is placed.0.inside)
    value_fits (list t) (elements vs) k h typed placed room handles =
        ((omega (arith, room), placed.0.inside), each_fits (parts_in t) (Fits n g (shape_of_type t)) (HasType t) vs (k + 1) h (counted t) (value_fits t) typed placed.1 (omega (arith, room)) handles)
    value_fits (fixed_list t c) (parts vs) k h typed placed room handles =
        (typed.0, each_fits (parts_in t) (Fits n g (shape_of_type t)) (HasType t) vs k h (counted t) (value_fits t) typed.1 placed room handles)
    value_fits (fields kind fs) (parts vs) k h typed placed room handles = fields_fit fs 0 vs k h typed placed room handles
    value_fits (cases kind cs) (bare i) k h typed placed room handles = tt
    value_fits (cases kind cs) (bearing i v) k h typed placed room handles = case_fits cs i v k h typed placed room handles
    value_fits (flags ls) (flag_set m) k h typed placed room handles = (refl, refl)
    value_fits (own r) (handle e) k h typed placed room handles = omega (arith, handles)
    value_fits (borrow r) (handle e) k h typed placed room handles = omega (arith, handles)
    value_fits _ _ k h typed placed room handles = absurd typed

    fields_fit : (fs : Fields) (end : ℕ) (vs : Vals) (k h : ℕ) → HaveTypes fs vs → ArePlaced target n g k (parts_in_fields fs vs) → k + part_count_each vs ≤ length g.places → h + handle_count_each vs ≤ length g.numbers
        → FitFields n g (parts_from (parts_at fs end)) vs k h
    fields_fit no_fields end no_vals k h typed placed room handles = tt
    fields_fit no_fields end (val v vs) k h typed placed room handles = absurd typed
    fields_fit (field l t fs) end no_vals k h typed placed room handles = absurd typed
    fields_fit (field l t fs) end (val v vs) k h typed placed room handles =
        let count = counted t v typed.0 in
        let both = placed_both k (parts_in t v) (parts_in_fields fs vs) (k + part_count v) (omega (arith, count)) placed in (
          value_fits t v k h typed.0 both.0 (omega (arith, room)) (omega (arith, handles)),
          fields_fit fs (align_to (align_of t) end + size_of t) vs (k + part_count v) (h + handle_count v) typed.1 both.1 (omega (arith, room)) (omega (arith, handles)),
        )

    case_fits : (cs : Cases) (i : ℕ) (v : Val) (k h : ℕ) → IsCarriedCase cs i v → ArePlaced target n g k (parts_in_payload cs i v) → k + part_count v ≤ length g.places → h + handle_count v ≤ length g.numbers
        → FitsCase n g (payloads_from (payloads_of cs)) i v k h
    case_fits no_cases i v k h typed placed room handles = absurd typed
    case_fits (plain l cs) zero v k h typed placed room handles = absurd typed
    case_fits (plain l cs) (suc i) v k h typed placed room handles = case_fits cs i v k h typed placed room handles
    case_fits (carrying l t cs) zero v k h typed placed room handles = value_fits t v k h typed placed room handles
    case_fits (carrying l t cs) (suc i) v k h typed placed room handles = case_fits cs i v k h typed placed room handles
