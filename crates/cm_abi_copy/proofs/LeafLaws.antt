-- What is met in a value are its handles.
use Rattle.std.proofs.Common.{◌≡◌, ℕ, zero, suc, ◌+◌, true, false, List, [], ◌∷◌, ◌++◌, length, refl, sym, ap, subst, ◌∙◌, inl, inr, append_assoc}
use Rattle.std.proofs.lemmas.Bool.{le-ltb, lt-ltb}
use Rattle.cm_types.specs.declared.core_value.CoreValue.{CoreValue}
use Rattle.cm_types.specs.declared.resource.ResourceId.{ResourceId}
use Rattle.cm_types.specs.Types.{Ty, Fields, Cases, bool, signed, unsigned, char, string, list, fixed_list, fields, cases, flags, own, borrow, no_fields, field, no_cases, plain, carrying}
use Rattle.cm_types.specs.Values.{HandleValue, Val, Vals, no_vals, val, truth, signed_number, number, scalar, text, elements, parts, bare, bearing, flag_set, handle}
use Rattle.cm_handles.specs.Handles.{Handles, handle_at}
use Rattle.cm_handles.specs.declared.handle.Handle.{Handle}
use Rattle.cm_layout.specs.Alignment.{align_to}
use Rattle.cm_layout.specs.Flattening.{flat_of_fields}
use Rattle.cm_layout.specs.Sizes.{align_of, payload_offset, size_of}
use Rattle.cm_abi_model.specs.Denotes.{Denotes}
use Rattle.cm_abi_model.specs.FlatShows.{FlatShowFields, FlatShows, FlatShowsPayload, width_of}
use Rattle.cm_abi_model.specs.Numbers.{number_at, wrapped_at}
use Rattle.cm_abi_model.specs.Receives.{HandleLeaf, owned_leaf, borrowed_leaf, leaves_each, leaves_in, leaves_in_fields, leaves_in_payload}
use Rattle.cm_abi_model.specs.Requests.{tuple_of}
use Rattle.cm_abi_model.specs.Shows.{ShowEach, ShowFields, Shows, ShowsHandle, ShowsOwned, ShowsPayload}
use Rattle.cm_abi_model.specs.Taken.{Met, text_content, content, taken, lent, met, met_at, met_each, met_flat, met_flat_fields, met_flat_payload, met_in_fields, met_in_payload}
use Rattle.cm_abi_model.specs.Views.{View, Way, flat_limit}
use Rattle.cm_abi_copy.specs.MetLeaves.{leaf_at, leaves_met}
use Rattle.cm_abi_model.specs.HandleLeaves.{stands_for}
use Rattle.cm_abi_model.proofs.MetThere.{met_as}

pub met_both : (t : Handles) (xs ys : List Met) → leaves_met t (xs ++ ys) ≡ leaves_met t xs ++ leaves_met t ys
met_both t [] ys = refl
met_both t (text_content tags n ∷ xs) ys = met_both t xs ys
met_both t (content n ∷ xs) ys = met_both t xs ys
met_both t (taken i ∷ xs) ys = ap (λ zs. leaf_at owned_leaf (handle_at t i) ++ zs) (met_both t xs ys) ∙ sym (append_assoc (leaf_at owned_leaf (handle_at t i)) (leaves_met t xs) (leaves_met t ys))
met_both t (lent i ∷ xs) ys = ap (λ zs. leaf_at borrowed_leaf (handle_at t i) ++ zs) (met_both t xs ys) ∙ sym (append_assoc (leaf_at borrowed_leaf (handle_at t i)) (leaves_met t xs) (leaves_met t ys))

-- what is met has these handles
abbrev Agree : Handles → List Met → List HandleLeaf → Type 0
Agree t ms leaves = leaves_met t ms ≡ leaves

both : (t : Handles) (ms ns : List Met) (xs ys : List HandleLeaf) → Agree t ms xs → Agree t ns ys → Agree t (ms ++ ns) (xs ++ ys)
both t ms ns xs ys a b = met_both t ms ns ∙ (ap (λ zs. zs ++ leaves_met t ns) a ∙ ap (λ zs. xs ++ zs) b)

each : (t : Handles) (S : ℕ → Val → Type 0) (M : ℕ → Val → List Met) (L : Val → List HandleLeaf) (size at : ℕ) (vs : Vals)
    → ((p : ℕ) (v : Val) → S p v → Agree t (M p v) (L v)) → ShowEach S size at vs → Agree t (met_each M size at vs) (leaves_each L vs)
each t S M L size at no_vals one h = refl
each t S M L size at (val v vs) one h = both t (M at v) (met_each M size (at + size) vs) (L v) (leaves_each L vs) (one at v h.0) (each t S M L size (at + size) vs one h.1)

as_value : (e : Handle) (r : ResourceId) (h : HandleValue) → e.resource ≡ r → h ≡ record { serial = e.serial; rep = e.rep; resource = r } → stands_for e ≡ h
as_value e r h of is = ap (λ (x : ResourceId). made x) of ∙ sym is
  where
    made : ResourceId → HandleValue
    made x = record { serial = e.serial; rep = e.rep; resource = x }

owned : (t : Handles) (i : ℕ) (r : ResourceId) (h : HandleValue) → ShowsOwned t i r h → Agree t (taken i ∷ []) (owned_leaf h ∷ [])
owned t i r h shown = rw shown.handle.stands (ap (λ x. owned_leaf x ∷ []) (as_value shown.handle.entry r h shown.handle.of_resource shown.handle.value))

borrowed : (t : Handles) (i : ℕ) (r : ResourceId) (h : HandleValue) → ShowsHandle t i r h → Agree t (lent i ∷ []) (borrowed_leaf h ∷ [])
borrowed t i r h shown = rw shown.stands (ap (λ x. borrowed_leaf x ∷ []) (as_value shown.entry r h shown.of_resource shown.value))

module _ (w : View) where
  mutual
    shown : (t : Ty) (p : ℕ) (v : Val) → Shows w t p v → Agree w.table (met_at w t p v) (leaves_in t v)
    shown bool p (truth b) h = refl
    shown (signed k) p (signed_number z) h = refl
    shown (unsigned k) p (number n) h = refl
    shown char p (scalar c) h = refl
    shown string p (text cs) h = refl
    shown (list t) p (elements vs) h = each w.table (Shows w t) (met_at w t) (leaves_in t) (size_of t) (number_at 4 w.memory p) vs (shown t) h.each
    shown (fixed_list t n) p (parts vs) h = each w.table (Shows w t) (met_at w t) (leaves_in t) (size_of t) p vs (shown t) h.1
    shown (fields k fs) p (parts vs) h = shown_fields fs p 0 vs h
    shown (cases k cs) p (bare i) h = refl
    shown (cases k cs) p (bearing i v) h = shown_payload cs (p + payload_offset cs) i v h.1
    shown (flags ls) p (flag_set n) h = refl
    shown (own r) p (handle e) h = owned w.table (number_at 4 w.memory p) r e h
    shown (borrow r) p (handle e) h = borrowed w.table (number_at 4 w.memory p) r e h
    shown _ p _ h = absurd h

    shown_fields : (fs : Fields) (p end : ℕ) (vs : Vals) → ShowFields w fs p end vs → Agree w.table (met_in_fields w fs p end vs) (leaves_in_fields fs vs)
    shown_fields no_fields p end no_vals h = refl
    shown_fields no_fields p end (val v vs) h = absurd h
    shown_fields (field l t fs) p end no_vals h = absurd h
    shown_fields (field l t fs) p end (val v vs) h =
        both w.table (met_at w t (p + align_to (align_of t) end) v) (met_in_fields w fs p (align_to (align_of t) end + size_of t) vs) (leaves_in t v) (leaves_in_fields fs vs)
        (shown t (p + align_to (align_of t) end) v h.0) (shown_fields fs p (align_to (align_of t) end + size_of t) vs h.1)

    shown_payload : (cs : Cases) (p i : ℕ) (v : Val) → ShowsPayload w cs p i v → Agree w.table (met_in_payload w cs p i v) (leaves_in_payload cs i v)
    shown_payload no_cases p i v h = absurd h
    shown_payload (plain l cs) p zero v h = absurd h
    shown_payload (plain l cs) p (suc i) v h = shown_payload cs p i v h
    shown_payload (carrying l t cs) p zero v h = shown t p v h
    shown_payload (carrying l t cs) p (suc i) v h = shown_payload cs p i v h

  module _ (s : List CoreValue) where
    mutual
      flat : (t : Ty) (k : ℕ) (v : Val) → FlatShows w s t k v → Agree w.table (met_flat w s t k v) (leaves_in t v)
      flat bool k (truth b) h = refl
      flat (signed b) k (signed_number z) h = refl
      flat (unsigned b) k (number n) h = refl
      flat char k (scalar c) h = refl
      flat string k (text cs) h = refl
      flat (list t) k (elements vs) h = each w.table (Shows w t) (met_at w t) (leaves_in t) (size_of t) (wrapped_at 4 s k) vs (shown t) h.each
      flat (fixed_list t n) k (parts vs) h = each w.table (FlatShows w s t) (met_flat w s t) (leaves_in t) (width_of t) k vs (flat t) h.1
      flat (fields f fs) k (parts vs) h = flat_fields fs k vs h
      flat (cases c cs) k (bare i) h = refl
      flat (cases c cs) k (bearing i v) h = flat_payload cs (k + 1) i v h.1
      flat (flags ls) k (flag_set n) h = refl
      flat (own r) k (handle e) h = owned w.table (wrapped_at 4 s k) r e h
      flat (borrow r) k (handle e) h = borrowed w.table (wrapped_at 4 s k) r e h
      flat _ k _ h = absurd h

      flat_fields : (fs : Fields) (k : ℕ) (vs : Vals) → FlatShowFields w s fs k vs → Agree w.table (met_flat_fields w s fs k vs) (leaves_in_fields fs vs)
      flat_fields no_fields k no_vals h = refl
      flat_fields no_fields k (val v vs) h = absurd h
      flat_fields (field l t fs) k no_vals h = absurd h
      flat_fields (field l t fs) k (val v vs) h =
          both w.table (met_flat w s t k v) (met_flat_fields w s fs (k + width_of t) vs) (leaves_in t v) (leaves_in_fields fs vs) (flat t k v h.0) (flat_fields fs (k + width_of t) vs h.1)

      flat_payload : (cs : Cases) (k i : ℕ) (v : Val) → FlatShowsPayload w s cs k i v → Agree w.table (met_flat_payload w s cs k i v) (leaves_in_payload cs i v)
      flat_payload no_cases k i v h = absurd h
      flat_payload (plain l cs) k zero v h = absurd h
      flat_payload (plain l cs) k (suc i) v h = flat_payload cs k i v h
      flat_payload (carrying l t cs) k zero v h = flat t k v h
      flat_payload (carrying l t cs) k (suc i) v h = flat_payload cs k i v h

pub passed : (w : View) (way : Way) (types : Fields) (slots : List CoreValue) (v : Val) → Denotes w way types slots v → Agree w.table (met w way types slots v) (leaves_in (tuple_of types) v)
passed w way types slots v h = elim h [
  | inl x ↦ subst (λ ms. Agree w.table ms (leaves_in (tuple_of types) v)) (sym (met_as w way types slots v false (le-ltb (flat_limit way) (length (flat_of_fields types)) x.fits))) (flat w slots (tuple_of types) 0 v x.shown)
  | inr x ↦ subst (λ ms. Agree w.table ms (leaves_in (tuple_of types) v)) (sym (met_as w way types slots v true (lt-ltb (flat_limit way) (length (flat_of_fields types)) x.spilled))) (shown w (tuple_of types) (wrapped_at 4 slots 0) v x.shown)
]
