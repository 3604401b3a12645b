-- A value of types without strings is shown alike whatever strings are encoded in.
use Rattle.std.proofs.Common.{◌≡◌, ℕ, zero, suc, ◌+◌, List, refl, inl, inr}
use Rattle.cm_types.specs.declared.core_value.CoreValue.{CoreValue}
use Rattle.cm_types.specs.Types.{Ty, Fields, Cases, bool, signed, unsigned, char}
use Rattle.cm_types.specs.Types.{string, list, fixed_list, fields, cases, flags, own, borrow, tuple_type}
use Rattle.cm_types.specs.Types.{no_fields, field, no_cases, plain, carrying}
use Rattle.cm_types.specs.Values.{Val, Vals, no_vals, val, truth, signed_number, number, scalar}
use Rattle.cm_types.specs.Values.{text, elements, parts, bare, bearing, flag_set, handle}
use Rattle.cm_abi_model.specs.declared.encoding.StringEncoding.{StringEncoding}
use Rattle.cm_abi_model.specs.Views.{View, Way}
use Rattle.cm_abi_model.specs.Requests.{HasNoString, HaveNoString, CarryNoString}
use Rattle.cm_abi_model.specs.Shows.{Shows, ShowEach, ShowFields, ShowsPayload}
use Rattle.cm_abi_model.specs.FlatShows.{FlatShows, FlatShowFields, FlatShowsPayload}
use Rattle.cm_abi_model.specs.Denotes.{Denotes}

-- the view with strings in another encoding
abbrev pub read_as : View → StringEncoding → View
read_as w e = record w { encoding = e }

each_alike : (S T : ℕ → Val → Type 0) → ((p : ℕ) (v : Val) → S p v → T p v) → (size p : ℕ) (vs : Vals) → ShowEach S size p vs → ShowEach T size p vs
each_alike S T one size p no_vals shown = tt
each_alike S T one size p (val v vs) shown = (one p v shown.0, each_alike S T one size (p + size) vs shown.1)

module _ (w : View) (e : StringEncoding) where
  mutual
    alike : (t : Ty) → HasNoString t → (p : ℕ) (v : Val) → Shows (read_as w e) t p v → Shows w t p v
    alike string none p v shown = absurd none
    alike (list t) none p (elements vs) shown =
        record { aligned = shown.aligned; inside = shown.inside; count = shown.count; each = each_alike (Shows (read_as w e) t) (Shows w t) (alike t none) _ _ vs shown.each }
    alike (fixed_list t n) none p (parts vs) shown = (shown.0, each_alike (Shows (read_as w e) t) (Shows w t) (alike t none) _ _ vs shown.1)
    alike (fields k fs) none p (parts vs) shown = fields_alike fs none p 0 vs shown
    alike (cases k cs) none p (bare i) shown = shown
    alike (cases k cs) none p (bearing i v) shown = (shown.0, payload_alike cs none _ i v shown.1)
    alike bool none p (truth b) shown = shown
    alike (signed k) none p (signed_number z) shown = shown
    alike (unsigned k) none p (number n) shown = shown
    alike char none p (scalar c) shown = shown
    alike (flags ls) none p (flag_set n) shown = shown
    alike (own r) none p (handle h) shown = shown
    alike (borrow r) none p (handle h) shown = shown
    alike t none p v shown = absurd shown

    fields_alike : (fs : Fields) → HaveNoString fs → (p end : ℕ) (vs : Vals) → ShowFields (read_as w e) fs p end vs → ShowFields w fs p end vs
    fields_alike no_fields none p end no_vals shown = tt
    fields_alike no_fields none p end (val v vs) shown = absurd shown
    fields_alike (field l t fs) none p end no_vals shown = absurd shown
    fields_alike (field l t fs) none p end (val v vs) shown = (alike t none.0 _ v shown.0, fields_alike fs none.1 p _ vs shown.1)

    payload_alike : (cs : Cases) → CarryNoString cs → (p i : ℕ) (v : Val) → ShowsPayload (read_as w e) cs p i v → ShowsPayload w cs p i v
    payload_alike no_cases none p i v shown = absurd shown
    payload_alike (plain l cs) none p zero v shown = absurd shown
    payload_alike (plain l cs) none p (suc i) v shown = payload_alike cs none p i v shown
    payload_alike (carrying l t cs) none p zero v shown = alike t none.0 p v shown
    payload_alike (carrying l t cs) none p (suc i) v shown = payload_alike cs none.1 p i v shown

  module _ (s : List CoreValue) where
    mutual
      flat_alike : (t : Ty) → HasNoString t → (k : ℕ) (v : Val) → FlatShows (read_as w e) s t k v → FlatShows w s t k v
      flat_alike string none k v shown = absurd none
      flat_alike (list t) none k (elements vs) shown =
          record { aligned = shown.aligned; inside = shown.inside; count = shown.count; each = each_alike (Shows (read_as w e) t) (Shows w t) (alike t none) _ _ vs shown.each }
      flat_alike (fixed_list t n) none k (parts vs) shown = (shown.0, each_alike (FlatShows (read_as w e) s t) (FlatShows w s t) (flat_alike t none) _ _ vs shown.1)
      flat_alike (fields f fs) none k (parts vs) shown = flat_fields_alike fs none k vs shown
      flat_alike (cases c cs) none k (bare i) shown = shown
      flat_alike (cases c cs) none k (bearing i v) shown = (shown.0, flat_payload_alike cs none _ i v shown.1)
      flat_alike bool none k (truth b) shown = shown
      flat_alike (signed b) none k (signed_number z) shown = shown
      flat_alike (unsigned b) none k (number n) shown = shown
      flat_alike char none k (scalar c) shown = shown
      flat_alike (flags ls) none k (flag_set n) shown = shown
      flat_alike (own r) none k (handle h) shown = shown
      flat_alike (borrow r) none k (handle h) shown = shown
      flat_alike t none k v shown = absurd shown

      flat_fields_alike : (fs : Fields) → HaveNoString fs → (k : ℕ) (vs : Vals) → FlatShowFields (read_as w e) s fs k vs → FlatShowFields w s fs k vs
      flat_fields_alike no_fields none k no_vals shown = tt
      flat_fields_alike no_fields none k (val v vs) shown = absurd shown
      flat_fields_alike (field l t fs) none k no_vals shown = absurd shown
      flat_fields_alike (field l t fs) none k (val v vs) shown = (flat_alike t none.0 k v shown.0, flat_fields_alike fs none.1 _ vs shown.1)

      flat_payload_alike : (cs : Cases) → CarryNoString cs → (k i : ℕ) (v : Val) → FlatShowsPayload (read_as w e) s cs k i v → FlatShowsPayload w s cs k i v
      flat_payload_alike no_cases none k i v shown = absurd shown
      flat_payload_alike (plain l cs) none k zero v shown = absurd shown
      flat_payload_alike (plain l cs) none k (suc i) v shown = flat_payload_alike cs none k i v shown
      flat_payload_alike (carrying l t cs) none k zero v shown = flat_alike t none.0 k v shown
      flat_payload_alike (carrying l t cs) none k (suc i) v shown = flat_payload_alike cs none.1 k i v shown

pub denoted_alike : (w : View) (e : StringEncoding) (way : Way) (types : Fields) (slots : List CoreValue) (v : Val) → HaveNoString types
    → Denotes (read_as w e) way types slots v → Denotes w way types slots v
denoted_alike w e way types slots v none (inl flat) = inl (record { fits = flat.fits; shown = flat_alike w e slots (fields tuple_type types) none 0 v flat.shown })
denoted_alike w e way types slots v none (inr spilled) = inr (record {
  spilled = spilled.spilled;
  aligned = spilled.aligned;
  inside = spilled.inside;
  shown = alike w e (fields tuple_type types) none _ v spilled.shown;
})
