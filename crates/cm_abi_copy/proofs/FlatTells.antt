-- The records of what core values denote tell its parts.
use Rattle.std.proofs.Common.{◌≡◌, ℕ, zero, suc, ◌+◌, ◌<◌, ◌%◌, ◌^◌, Bool, true, false, List, [], ◌∷◌, length, drop, get_or, Some, None, refl, sym, ap, subst, ◌∙◌, arith, inl, inr}
use Rattle.std.specs.Prelude.{if◌then◌else◌}
use Rattle.std.proofs.lemmas.Bool.{le-ltb, lt-ltb}
use Rattle.std.proofs.lemmas.List.{get_or-drop}
use Rattle.cm_types.specs.declared.core_value.CoreValue.{CoreValue}
use Rattle.cm_types.specs.declared.core_value.CoreValue.TheVariants as core_value
use Rattle.cm_types.specs.Types.{Ty, Fields, Cases, bool, signed, unsigned, char, string, list, fixed_list, fields, cases, flags, own, borrow, no_fields, field, no_cases, plain, carrying}
use Rattle.cm_types.specs.Values.{Val, Vals, no_vals, val, truth, signed_number, number, scalar, text, elements, parts, bare, bearing, flag_set, handle}
use Rattle.cm_layout.specs.Alignment.{align_to}
use Rattle.cm_layout.specs.Flattening.{flat_of_fields}
use Rattle.cm_layout.specs.Shapes.{head_of, layout_of_fields_at, parts_at, parts_from, payloads_from, payloads_of, shape_of_type}
use Rattle.cm_layout.specs.Sizes.{align_of, size_of}
use Rattle.cm_abi_model.specs.declared.encoding.StringEncoding.{StringEncoding}
use Rattle.cm_abi_model.specs.Denotes.{Denotes}
use Rattle.cm_abi_model.specs.FlatShows.{FlatShowFields, FlatShows, FlatShowsPayload, width_of}
use Rattle.cm_abi_model.specs.Numbers.{slot_number, wrapped_at}
use Rattle.cm_abi_model.specs.Parts.{Part, element_part, parts_each, parts_in, parts_in_fields, parts_in_payload}
use Rattle.cm_abi_model.specs.Requests.{call_parts, is_spilled, tuple_of}
use Rattle.cm_abi_model.specs.Shows.{ShowEach, Shows}
use Rattle.cm_abi_model.specs.Views.{View, Way, flat_limit}
use Rattle.cm_abi_load.specs.Reading.{seen_by}
use Rattle.cm_abi_model.specs.declared.record.PartRecord.{PartRecord}
use Rattle.cm_abi_model.specs.Places.{places_at, places_each}
use Rattle.cm_abi_lift.specs.Records.{records_at, records_of_list, text_record}
use Rattle.cm_abi_lift.specs.Telling.{ElementsAreTold, TextIsTold}
use Rattle.cm_abi_model.specs.Telling.{TellAll}
use Rattle.cm_abi_model.specs.CallPlaces.{call_places, flat_places, flat_places_in_fields, flat_places_in_payload}
use Rattle.cm_abi_lift.specs.FlatRecords.{flat_records, flat_records_each, flat_records_of_case, flat_records_of_fields, passed_records, spilled_records}
use Rattle.cm_abi_model.proofs.NumbersLaws.{at_second}
use Rattle.cm_types.proofs.CoreValueLaws.{drop_twice}
use Rattle.cm_lemmas.proofs.Bools.{not_both}
use Rattle.cm_abi_model.proofs.TellingLaws.{tell_both}

-- what the laws of scanning in memory promise
pub record Laws : Type 0 where
  pub some : (t : Ty) → 0 < align_of t
  pub text_told : TextIsTold
  pub elements_told : ElementsAreTold
  pub told : (w : View) (target : StringEncoding) (t : Ty) (p : ℕ) (v : Val) → Shows w t p v → TellAll w target (records_at (seen_by w) target (shape_of_type t) p v) (parts_in t v) (places_at w t p v)

-- ---- slots

pub at_first : (s : List CoreValue) (k : ℕ) → wrapped_at 4 (drop k s) 0 ≡ wrapped_at 4 s k
at_first s k =
    let here : k + 0 ≡ k = omega arith in
    ap (λ v. slot_number v % 2 ^ 32) (get_or-drop k s 0 (core_value.I32 0) ∙ ap (λ n. get_or s n (core_value.I32 0)) here)

two_slots : {X : Type 0} (F : ℕ → ℕ → X) (s : List CoreValue) (k : ℕ) → F (wrapped_at 4 s k) (wrapped_at 4 s (k + 1)) ≡ F (wrapped_at 4 (drop k s) 0) (wrapped_at 4 (drop k s) 1)
two_slots F s k = sym (ap (λ n. F n (wrapped_at 4 (drop k s) 1)) (at_first s k) ∙ ap (F (wrapped_at 4 s k)) (at_second s k))

-- ---- values in a row

each_tells : (w : View) (target : StringEncoding) (s : List CoreValue) (S : ℕ → Val → Type 0) (R : List CoreValue → Val → List PartRecord) (P : Val → List Part) (M : ℕ → Val → List ℕ) (width k : ℕ) (vs : Vals)
    → ((j : ℕ) (v : Val) → S j v → TellAll w target (R (drop j s) v) (P v) (M j v))
    → ShowEach S width k vs → TellAll w target (flat_records_each R width (drop k s) vs) (parts_each P vs) (places_each M width k vs)
each_tells w target s S R P M width k no_vals one h = tt
each_tells w target s S R P M width k (val v vs) one h =
    let rest = each_tells w target s S R P M width (k + width) vs one h.1 in
    tell_both w target (R (drop k s) v) (flat_records_each R width (drop width (drop k s)) vs) (P v) (parts_each P vs) (M k v) (places_each M width (k + width) vs)
    (one k v h.0) (subst (λ z. TellAll w target (flat_records_each R width z vs) (parts_each P vs) (places_each M width (k + width) vs)) (sym (drop_twice width k s)) rest)

none_told : (w : View) (target : StringEncoding) (cs : Cases) (i : ℕ) (s : List CoreValue) → flat_records_of_case (seen_by w) target (payloads_from (payloads_of cs)) i s None ≡ []
none_told w target no_cases i s = refl
none_told w target (plain l cs) zero s = refl
none_told w target (plain l cs) (suc i) s = none_told w target cs i s
none_told w target (carrying l t cs) zero s = refl
none_told w target (carrying l t cs) (suc i) s = none_told w target cs i s

module _ (laws : Laws) (w : View) (target : StringEncoding) (s : List CoreValue) where
  mutual
    flat_tells : (t : Ty) (k : ℕ) (v : Val) → FlatShows w s t k v → TellAll w target (flat_records (seen_by w) target (shape_of_type t) (drop k s) v) (parts_in t v) (flat_places w s t k v)
    flat_tells bool k (truth b) h = tt
    flat_tells (signed b) k (signed_number z) h = tt
    flat_tells (unsigned b) k (number n) h = tt
    flat_tells char k (scalar c) h = tt
    flat_tells string k (text cs) h =
        subst (λ r. TellAll w target (r ∷ []) (parts_in string (text cs)) (flat_places w s string k (text cs))) (two_slots (λ a n. text_record w.encoding target a n (text cs)) s k)
        (laws.text_told w target (wrapped_at 4 s k) (wrapped_at 4 s (k + 1)) cs h, tt)
    flat_tells (list t) k (elements vs) h =
        subst (λ rs. TellAll w target rs (parts_in (list t) (elements vs)) (flat_places w s (list t) k (elements vs)))
        (two_slots (λ a n. records_of_list (records_at (seen_by w) target (shape_of_type t)) (head_of t) a n (elements vs)) s k)
        (laws.elements_told w target t (wrapped_at 4 s k) (wrapped_at 4 s (k + 1)) vs h)
    flat_tells (fixed_list t n) k (parts vs) h = each_tells w target s (FlatShows w s t) (flat_records (seen_by w) target (shape_of_type t)) (parts_in t) (flat_places w s t) (width_of t) k vs (flat_tells t) h.1
    flat_tells (fields f fs) k (parts vs) h = fields_tell fs 0 k vs h
    flat_tells (cases c cs) k (bare i) h = subst (λ rs. TellAll w target rs [] []) (sym (none_told w target cs i (drop 1 (drop k s)))) tt
    flat_tells (cases c cs) k (bearing i v) h =
        subst (λ z. TellAll w target (flat_records_of_case (seen_by w) target (payloads_from (payloads_of cs)) i z (Some v)) (parts_in_payload cs i v) (flat_places_in_payload w s cs (k + 1) i v)) (sym (drop_twice 1 k s))
        (payload_tells cs (k + 1) i v h.1)
    flat_tells (flags ls) k (flag_set n) h = tt
    flat_tells (own r) k (handle e) h = tt
    flat_tells (borrow r) k (handle e) h = tt
    flat_tells _ k _ h = absurd h

    fields_tell : (fs : Fields) (end k : ℕ) (vs : Vals) → FlatShowFields w s fs k vs
        → TellAll w target (flat_records_of_fields (seen_by w) target (parts_from (parts_at fs end)) (drop k s) vs) (parts_in_fields fs vs) (flat_places_in_fields w s fs k vs)
    fields_tell no_fields end k no_vals h = tt
    fields_tell no_fields end k (val v vs) h = absurd h
    fields_tell (field l t fs) end k no_vals h = absurd h
    fields_tell (field l t fs) end k (val v vs) h =
        let next = align_to (align_of t) end + size_of t in
        let rest = fields_tell fs next (k + width_of t) vs h.1 in
        tell_both w target (flat_records (seen_by w) target (shape_of_type t) (drop k s) v) (flat_records_of_fields (seen_by w) target (parts_from (parts_at fs next)) (drop (width_of t) (drop k s)) vs)
        (parts_in t v) (parts_in_fields fs vs) (flat_places w s t k v) (flat_places_in_fields w s fs (k + width_of t) vs) (flat_tells t k v h.0)
        (subst (λ z. TellAll w target (flat_records_of_fields (seen_by w) target (parts_from (parts_at fs next)) z vs) (parts_in_fields fs vs) (flat_places_in_fields w s fs (k + width_of t) vs)) (sym (drop_twice (width_of t) k s)) rest)

    payload_tells : (cs : Cases) (k i : ℕ) (v : Val) → FlatShowsPayload w s cs k i v
        → TellAll w target (flat_records_of_case (seen_by w) target (payloads_from (payloads_of cs)) i (drop k s) (Some v)) (parts_in_payload cs i v) (flat_places_in_payload w s cs k i v)
    payload_tells no_cases k i v h = absurd h
    payload_tells (plain l cs) k zero v h = absurd h
    payload_tells (plain l cs) k (suc i) v h = payload_tells cs k i v h
    payload_tells (carrying l t cs) k zero v h = flat_tells t k v h
    payload_tells (carrying l t cs) k (suc i) v h = payload_tells cs k i v h

-- ---- what is passed

spilled_tells : Laws → (w : View) (target : StringEncoding) (types : Fields) (at : ℕ) (v : Val) → Shows w (tuple_of types) at v
    → TellAll w target (spilled_records (seen_by w) target (layout_of_fields_at types) at v) (element_part 1 (size_of (tuple_of types)) (align_of (tuple_of types)) ∷ parts_in (tuple_of types) v)
    (at ∷ places_at w (tuple_of types) at v)
spilled_tells laws w target types at v h = (record { place = refl; source = refl; size = refl; align = refl; aligned = laws.some (tuple_of types) }, laws.told w target (tuple_of types) at v h)

by_way : Laws → (w : View) (target : StringEncoding) (way : Way) (types : Fields) (slots : List CoreValue) (v : Val) (b : Bool)
    → (b ≡ true → Shows w (tuple_of types) (wrapped_at 4 slots 0) v) → (b ≡ false → FlatShows w slots (tuple_of types) 0 v)
    → TellAll w target (if b then spilled_records (seen_by w) target (layout_of_fields_at types) (wrapped_at 4 slots 0) v else flat_records (seen_by w) target (shape_of_type (tuple_of types)) slots v)
    (if b then element_part 1 (size_of (tuple_of types)) (align_of (tuple_of types)) ∷ parts_in (tuple_of types) v else parts_in (tuple_of types) v)
    (if b then wrapped_at 4 slots 0 ∷ places_at w (tuple_of types) (wrapped_at 4 slots 0) v else flat_places w slots (tuple_of types) 0 v)
by_way laws w target way types slots v true spilled flat = spilled_tells laws w target types (wrapped_at 4 slots 0) v (spilled refl)
by_way laws w target way types slots v false spilled flat = flat_tells laws w target slots (tuple_of types) 0 v (flat refl)

pub passed_tells : Laws → (w : View) (target : StringEncoding) (way : Way) (types : Fields) (slots : List CoreValue) (v : Val) → Denotes w way types slots v
    → TellAll w target (passed_records (seen_by w) target (flat_limit way) (layout_of_fields_at types) slots v) (call_parts way types v) (call_places w way types slots v)
passed_tells laws w target way types slots v (inl x) =
    by_way laws w target way types slots v (is_spilled way types) (λ is. absurd (not_both (is_spilled way types) is (le-ltb (flat_limit way) (length (flat_of_fields types)) x.fits))) (λ is. x.shown)
passed_tells laws w target way types slots v (inr x) =
    by_way laws w target way types slots v (is_spilled way types) (λ is. x.shown) (λ is. absurd (not_both (is_spilled way types) (lt-ltb (flat_limit way) (length (flat_of_fields types)) x.spilled) is))
