-- Handles that are added to a table.
use Rattle.std.proofs.Common.{◌≡◌, ◌∙◌, ◌<◌, ℕ, zero, suc, List, ◌∷◌, [], ◌++◌, map, Some, None, sym, ap, subst, inl, inr, Option, ◌↔◌, Err, arith, length, refl}
use Rattle.std.proofs.lemmas.Bool.{cases_eq}
use Rattle.std.proofs.lemmas.List.{map-append}
use Rattle.std.specs.Prelude.{IsErrOf, IsOkUnless}
use Rattle.cm_lemmas.proofs.Lists.{map_length, one_longer}
use Rattle.cm_abi_model.specs.Lifts.{LendsBelow}
use Rattle.cm_handles.specs.Handles.{Changes, Handles, after_add, indices_left, no_handles}
use Rattle.cm_handles.specs.declared.fault.HandleFault.{HandleFault}
use Rattle.cm_handles.specs.declared.fault.HandleFault.TheVariants as handle_fault
use Rattle.cm_handles.specs.declared.handle.Handle.{Handle}
use Rattle.cm_handles.specs.declared.table.TheConstants.{MAX_HANDLES}
use Rattle.huxarte_c_calls.specs.HandedOver.{IsTableFault, handle_of, handles_of}
use Rattle.huxarte_c_calls.specs.declared.handles.HuxHandle.{HuxHandle}

-- one handle more, which is lent as seldom as the others
pub lends_more : (n : ℕ) (old new : Handles) (i : ℕ) (x : Handle) → Changes old new i (Some x)
    → x.lends < n → LendsBelow n old → LendsBelow n new
lends_more n old new i x made few below k h at = elim (cases_eq k i) [
  | inl same ↦ let e : x ≡ h = cc in subst (λ (y : Handle). y.lends < n) e few
  | inr other ↦ below k h (sym (made.others k other) ∙ at)
]

-- no handle is lent where there is none
pub lent_never : (n : ℕ) → LendsBelow n no_handles
lent_never n zero h at = absurd cc
lent_never n (suc k) h at = absurd cc

-- one handle more of those that were handed over
pub handles_more : (hs : List HuxHandle) (x : HuxHandle) → after_add (handles_of hs) (handle_of x) ≡ handles_of (hs ++ x ∷ [])
handles_more hs x =
    ap (λ (s : List (Option Handle)). record { slots = None ∷ s; freed = [] }) (sym (map-append (λ (h : HuxHandle). Some (handle_of h)) hs (x ∷ [])))

above : (n : ℕ) → (n ≡ 0 → ⊥) → 0 < n
above zero some = absurd (some refl)
above (suc n) some = omega arith

full : (hs : List HuxHandle) (x : HuxHandle) → indices_left (handles_of hs) ≡ 0 → MAX_HANDLES < length (hs ++ x ∷ [])
full hs x left =
    let many : length (map (λ (h : HuxHandle). Some (handle_of h)) hs) ≡ length hs = map_length (λ (h : HuxHandle). Some (handle_of h)) hs in
    let longer : length (hs ++ x ∷ []) ≡ suc (length hs) = one_longer hs x in
    omega (arith, left, many, longer)

error_is : (f g : HandleFault) → IsErrOf {T = ℕ} (Err f) g → f ≡ g
error_is f g same = cc

-- why a table with these handles has no room for one more
pub no_room : (hs : List HuxHandle) (x : HuxHandle) (t : Handles) (f : HandleFault) → t ≡ handles_of hs
    → (IsErrOf {T = ℕ} (Err f) handle_fault.Full ↔ (indices_left t ≡ 0)) → (0 < indices_left t → IsOkUnless {T = ℕ} (Err f) handle_fault.Memory)
    → IsTableFault (hs ++ x ∷ []) f
no_room hs x t f is when other = elim (cases_eq (indices_left t) 0) [
  | inl none ↦ subst (IsTableFault (hs ++ x ∷ [])) (sym (error_is f handle_fault.Full (when.1 none))) (full hs x (ap indices_left (sym is) ∙ none))
  | inr some ↦ subst (IsTableFault (hs ++ x ∷ [])) (sym (other (above (indices_left t) some))) tt
]
