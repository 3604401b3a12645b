-- Laws of what Handles defines, for this crate and those above it.
use Rattle.std.proofs.Common.{Result, ◌≡◌, Ok, Err, ◌==◌, refl, Bool, true, ap, sym, ◌∙◌, false, ℕ, ◌≢◌, None, Some, ◌+◌, length, inl, inr, subst, ◌≤◌, arith, Option, zero, suc}
use Rattle.std.proofs.lemmas.Bool.{eqb-true, and_from, and_parts, cases_lt}
use Rattle.std.proofs.lemmas.List.{get_or-set_other, get_or-set_same, get_or_past, length-set}
use Rattle.std.specs.Option.{option_map}
use Rattle.std.specs.Prelude.{if◌then◌else◌, slice_set}
use Rattle.cm_handles.proofs.FaultLaws.{okay, failed}
use Rattle.cm_handles.proofs.HandleLaws.{err_is_no_ok, same_by, lent_by}
use Rattle.cm_handles.proofs.SoundHandles.{within_slots}
use Rattle.cm_handles.specs.Handles.{if_not_lent, is_same_resource, Handles, handle_at, after_lend, after_release, with_lends, after_change, no_handles, of_resource}
use Rattle.cm_handles.specs.declared.fault.HandleFault.{HandleFault}
use Rattle.cm_handles.specs.declared.fault.HandleFault.TheVariants as handle_fault
use Rattle.cm_handles.specs.declared.handle.Handle.{Handle}
use Rattle.cm_lemmas.proofs.Numbers.{eq_true}
use Rattle.cm_types.specs.declared.resource.ResourceId.{ResourceId}

pub free : (r : Result Handle HandleFault) (h : Handle) → if_not_lent r ≡ Ok h → (r ≡ okay h) × (h.lends ≡ 0)
free (Err e) h is = absurd (cc)
free (Ok x) h is = picked (x.lends == 0) refl is
  where
    picked : (b : Bool) → (x.lends == 0) ≡ b → (if b then okay x else failed handle_fault.StillLent) ≡ okay h → (okay x ≡ okay h) × (h.lends ≡ 0)
    picked true zero_is k = let same : x ≡ h = cc in (k, ap (λ (y : Handle). y.lends) (sym same) ∙ eqb-true x.lends 0 zero_is)
    picked false zero_is k = absurd (cc)

pub same_true : (a b : ResourceId) → a ≡ b → is_same_resource a b ≡ true
same_true a b e = and_from (a.component == b.component) (a.number == b.number)
    (eq_true a.component b.component (ap (λ (r : ResourceId). r.component) e)) (eq_true a.number b.number (ap (λ (r : ResourceId). r.number) e))

-- handles
pub same_is : (a b : ResourceId) → is_same_resource a b ≡ true → a ≡ b
same_is a b e =
    let both = and_parts (a.component == b.component) (a.number == b.number) e in
    ap (λ n. record { component = n; number = a.number }) (eqb-true a.component b.component both.0)
    ∙ ap (λ n. record { component = b.component; number = n }) (eqb-true a.number b.number both.1)

pub beside_lent : (t : Handles) (i j : ℕ) → j ≢ i → handle_at (after_lend t i) j ≡ handle_at t j
beside_lent t i j other = get_or-set_other t.slots i j _ None other

pub beside_released : (t : Handles) (i j : ℕ) → j ≢ i → handle_at (after_release t i) j ≡ handle_at t j
beside_released t i j other = get_or-set_other t.slots i j None None other

pub lent_there : (t : Handles) (index : ℕ) (h : Handle) → handle_at t index ≡ Some h → handle_at (after_lend t index) index ≡ Some (with_lends (h.lends + 1) h)
lent_there t index h stands =
    get_or-set_same t.slots index (option_map (λ x. with_lends (x.lends + 1) x) (handle_at t index)) None (within_slots t index h stands)
    ∙ ap (λ o. option_map (λ (x : Handle). with_lends (x.lends + 1) x) o) stands

pub released : (t : Handles) (i : ℕ) → handle_at (after_release t i) i ≡ None
released t i = elim (cases_lt i (length t.slots)) [
  | inl below ↦ get_or-set_same t.slots i None None below
  | inr past ↦ get_or_past (after_release t i).slots i None (subst (λ n. n ≤ i) (sym (length-set t.slots i None)) past)
]

-- what stands at an index that is changed
pub at_change : (t : Handles) (i : ℕ) (f : Handle → Handle) → handle_at (after_change t i f) i ≡ option_map f (handle_at t i)
at_change t i f = elim (cases_lt i (length t.slots)) as (λ r. handle_at (after_change t i f) i ≡ option_map f (handle_at t i)) [
  | inl lt ↦ get_or-set_same t.slots i (option_map f (handle_at t i)) None lt
  | inr le ↦
      let old : handle_at t i ≡ None = get_or_past t.slots i None le in
      get_or_past (slice_set t.slots i (option_map f (handle_at t i))) i None (omega (arith, length-set t.slots i (option_map f (handle_at t i)), le)) ∙ sym (ap (λ (o : Option Handle). option_map f o) old)
]

pub none_there : (k : ℕ) → handle_at no_handles k ≡ None
none_there zero = refl
none_there (suc k) = refl

pub looked : (o : Option Handle) (r : ResourceId) (h : Handle) → of_resource o r ≡ Ok h → o ≡ Some h
looked None r h e = absurd (err_is_no_ok handle_fault.NoHandle h e)
looked (Some g) r h e = ap Some (same_by (is_same_resource g.resource r) g h e)

pub not_lent : (x : Result Handle HandleFault) (h : Handle) → if_not_lent x ≡ Ok h → x ≡ Ok h
not_lent (Err f) h e = absurd (err_is_no_ok f h e)
not_lent (Ok g) h e = ap Ok (lent_by (g.lends == 0) g h e)
