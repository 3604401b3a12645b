-- Each handle that is met in what core values denote stands in the table.
use Rattle.std.proofs.Common.{◌≡◌, ℕ, zero, suc, ◌+◌, Bool, true, false, List, [], ◌∷◌, ◌++◌, length, sym, ap, subst, inl, inr}
use Rattle.std.specs.Prelude.{if◌then◌else◌}
use Rattle.std.proofs.lemmas.Bool.{le-ltb, lt-ltb}
use Rattle.cm_types.specs.declared.core_value.CoreValue.{CoreValue}
use Rattle.cm_types.specs.declared.resource.ResourceId.{ResourceId}
use Rattle.cm_types.specs.Types.{Ty, Fields, Cases, bool, signed, unsigned, char, string, list, fixed_list, fields, cases, flags, own, borrow, no_fields, field, no_cases, plain, carrying}
use Rattle.cm_types.specs.Values.{HandleValue, Val, Vals, no_vals, val, truth, signed_number, number, scalar, text, elements, parts, bare, bearing, flag_set, handle}
use Rattle.cm_handles.specs.Handles.{Handles}
use Rattle.cm_layout.specs.Alignment.{align_to}
use Rattle.cm_layout.specs.Flattening.{flat_of_fields}
use Rattle.cm_layout.specs.Sizes.{align_of, payload_offset, size_of}
use Rattle.cm_abi_model.specs.Denotes.{Denotes}
use Rattle.cm_abi_model.specs.FlatShows.{FlatShowFields, FlatShows, FlatShowsPayload, width_of}
use Rattle.cm_abi_model.specs.Numbers.{number_at, wrapped_at}
use Rattle.cm_abi_model.specs.Requests.{is_spilled, tuple_of}
use Rattle.cm_abi_model.specs.Shows.{ShowEach, ShowFields, Shows, ShowsHandle, ShowsOwned, ShowsPayload}
use Rattle.cm_abi_model.specs.Taken.{AllThere, Met, text_content, content, taken, lent, met, met_at, met_each, met_flat, met_flat_fields, met_flat_payload, met_in_fields, met_in_payload}
use Rattle.cm_abi_model.specs.Views.{View, Way, flat_limit}

both : (t : Handles) (ms ns : List Met) → AllThere t ms → AllThere t ns → AllThere t (ms ++ ns)
both t [] ns a b = b
both t (text_content tags n ∷ ms) ns a b = both t ms ns a b
both t (content n ∷ ms) ns a b = both t ms ns a b
both t (taken i ∷ ms) ns a b = (a.0, both t ms ns a.1 b)
both t (lent i ∷ ms) ns a b = (a.0, both t ms ns a.1 b)

each : (t : Handles) (S : ℕ → Val → Type 0) (M : ℕ → Val → List Met) (size at : ℕ) (vs : Vals)
    → ((p : ℕ) (v : Val) → S p v → AllThere t (M p v)) → ShowEach S size at vs → AllThere t (met_each M size at vs)
each t S M size at no_vals one h = tt
each t S M size at (val v vs) one h = both t (M at v) (met_each M size (at + size) vs) (one at v h.0) (each t S M size (at + size) vs one h.1)

module _ (w : View) where
  mutual
    shown : (t : Ty) (p : ℕ) (v : Val) → Shows w t p v → AllThere w.table (met_at w t p v)
    shown bool p (truth b) h = tt
    shown (signed k) p (signed_number z) h = tt
    shown (unsigned k) p (number n) h = tt
    shown char p (scalar c) h = tt
    shown string p (text cs) h = tt
    shown (list t) p (elements vs) h = each w.table (Shows w t) (met_at w t) (size_of t) (number_at 4 w.memory p) vs (shown t) h.each
    shown (fixed_list t n) p (parts vs) h = each w.table (Shows w t) (met_at w t) (size_of t) p vs (shown t) h.1
    shown (fields k fs) p (parts vs) h = shown_fields fs p 0 vs h
    shown (cases k cs) p (bare i) h = tt
    shown (cases k cs) p (bearing i v) h = shown_payload cs (p + payload_offset cs) i v h.1
    shown (flags ls) p (flag_set n) h = tt
    shown (own r) p (handle e) h = ((h.handle.entry, h.handle.stands), tt)
    shown (borrow r) p (handle e) h = ((h.entry, h.stands), tt)
    shown _ p _ h = absurd h

    shown_fields : (fs : Fields) (p end : ℕ) (vs : Vals) → ShowFields w fs p end vs → AllThere w.table (met_in_fields w fs p end vs)
    shown_fields no_fields p end no_vals h = tt
    shown_fields no_fields p end (val v vs) h = absurd h
    shown_fields (field l t fs) p end no_vals h = absurd h
    shown_fields (field l t fs) p end (val v vs) h =
        both w.table (met_at w t (p + align_to (align_of t) end) v) (met_in_fields w fs p (align_to (align_of t) end + size_of t) vs)
        (shown t (p + align_to (align_of t) end) v h.0) (shown_fields fs p (align_to (align_of t) end + size_of t) vs h.1)

    shown_payload : (cs : Cases) (p i : ℕ) (v : Val) → ShowsPayload w cs p i v → AllThere w.table (met_in_payload w cs p i v)
    shown_payload no_cases p i v h = absurd h
    shown_payload (plain l cs) p zero v h = absurd h
    shown_payload (plain l cs) p (suc i) v h = shown_payload cs p i v h
    shown_payload (carrying l t cs) p zero v h = shown t p v h
    shown_payload (carrying l t cs) p (suc i) v h = shown_payload cs p i v h

  module _ (s : List CoreValue) where
    mutual
      flat : (t : Ty) (k : ℕ) (v : Val) → FlatShows w s t k v → AllThere w.table (met_flat w s t k v)
      flat bool k (truth b) h = tt
      flat (signed b) k (signed_number z) h = tt
      flat (unsigned b) k (number n) h = tt
      flat char k (scalar c) h = tt
      flat string k (text cs) h = tt
      flat (list t) k (elements vs) h = each w.table (Shows w t) (met_at w t) (size_of t) (wrapped_at 4 s k) vs (shown t) h.each
      flat (fixed_list t n) k (parts vs) h = each w.table (FlatShows w s t) (met_flat w s t) (width_of t) k vs (flat t) h.1
      flat (fields f fs) k (parts vs) h = flat_fields fs k vs h
      flat (cases c cs) k (bare i) h = tt
      flat (cases c cs) k (bearing i v) h = flat_payload cs (k + 1) i v h.1
      flat (flags ls) k (flag_set n) h = tt
      flat (own r) k (handle e) h = ((h.handle.entry, h.handle.stands), tt)
      flat (borrow r) k (handle e) h = ((h.entry, h.stands), tt)
      flat _ k _ h = absurd h

      flat_fields : (fs : Fields) (k : ℕ) (vs : Vals) → FlatShowFields w s fs k vs → AllThere w.table (met_flat_fields w s fs k vs)
      flat_fields no_fields k no_vals h = tt
      flat_fields no_fields k (val v vs) h = absurd h
      flat_fields (field l t fs) k no_vals h = absurd h
      flat_fields (field l t fs) k (val v vs) h =
          both w.table (met_flat w s t k v) (met_flat_fields w s fs (k + width_of t) vs) (flat t k v h.0) (flat_fields fs (k + width_of t) vs h.1)

      flat_payload : (cs : Cases) (k i : ℕ) (v : Val) → FlatShowsPayload w s cs k i v → AllThere w.table (met_flat_payload w s cs k i v)
      flat_payload no_cases k i v h = absurd h
      flat_payload (plain l cs) k zero v h = absurd h
      flat_payload (plain l cs) k (suc i) v h = flat_payload cs k i v h
      flat_payload (carrying l t cs) k zero v h = flat t k v h
      flat_payload (carrying l t cs) k (suc i) v h = flat_payload cs k i v h

pub met_as : (w : View) (way : Way) (types : Fields) (slots : List CoreValue) (v : Val) (b : Bool) → is_spilled way types ≡ b
    → met w way types slots v ≡ (if b then met_at w (tuple_of types) (wrapped_at 4 slots 0) v else met_flat w slots (tuple_of types) 0 v)
met_as w way types slots v b is = ap (λ c. if c then met_at w (tuple_of types) (wrapped_at 4 slots 0) v else met_flat w slots (tuple_of types) 0 v) is

pub passed : (w : View) (way : Way) (types : Fields) (slots : List CoreValue) (v : Val) → Denotes w way types slots v → AllThere w.table (met w way types slots v)
passed w way types slots v h = elim h [
  | inl x ↦ subst (λ ms. AllThere w.table ms) (sym (met_as w way types slots v false (le-ltb (flat_limit way) (length (flat_of_fields types)) x.fits))) (flat w slots (tuple_of types) 0 v x.shown)
  | inr x ↦ subst (λ ms. AllThere w.table ms) (sym (met_as w way types slots v true (lt-ltb (flat_limit way) (length (flat_of_fields types)) x.spilled))) (shown w (tuple_of types) (wrapped_at 4 slots 0) v x.shown)
]
