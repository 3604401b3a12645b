-- The records of what core values denote keep the tags of its strings.
use Rattle.std.proofs.Common.{◌≡◌, ℕ, zero, suc, ◌+◌, Bool, true, false, List, [], ◌∷◌, ◌++◌, length, drop, Some, None, refl, sym, ap, ◌∙◌, inl, inr}
use Rattle.std.specs.Prelude.{if◌then◌else◌}
use Rattle.std.proofs.lemmas.Bool.{le-ltb, lt-ltb}
use Rattle.cm_types.specs.declared.core_value.CoreValue.{CoreValue}
use Rattle.cm_types.specs.Types.{Ty, Fields, Cases, bool, signed, unsigned, char, string, list, fixed_list, fields, cases, flags, own, borrow, no_fields, field, no_cases, plain, carrying}
use Rattle.cm_types.specs.Values.{Val, Vals, no_vals, val, truth, signed_number, number, scalar, text, elements, parts, bare, bearing, flag_set, handle}
use Rattle.cm_layout.specs.Alignment.{align_to}
use Rattle.cm_layout.specs.Flattening.{flat_of_fields}
use Rattle.cm_layout.specs.Shapes.{layout_of_fields_at, parts_at, parts_from, payloads_from, payloads_of, shape_of_type}
use Rattle.cm_layout.specs.Sizes.{align_of, payload_offset, size_of}
use Rattle.cm_abi_model.specs.declared.encoding.StringEncoding.{StringEncoding}
use Rattle.cm_abi_model.specs.declared.encoding.StringEncoding.TheVariants as encoding
use Rattle.cm_abi_model.specs.Denotes.{Denotes}
use Rattle.cm_abi_model.specs.FlatShows.{FlatShowFields, FlatShows, FlatShowsPayload, width_of}
use Rattle.cm_abi_model.specs.Numbers.{number_at, wrapped_at}
use Rattle.cm_abi_model.specs.Requests.{is_spilled, tuple_of}
use Rattle.cm_abi_model.specs.Shows.{ShowEach, ShowFields, Shows, ShowsPayload}
use Rattle.cm_abi_model.specs.Taken.{Met, text_content, content, taken, lent, met, met_at, met_each, met_flat, met_flat_fields, met_flat_payload, met_in_fields, met_in_payload}
use Rattle.cm_abi_model.specs.Taken as model
use Rattle.cm_abi_model.specs.Texts.{tag_of}
use Rattle.cm_abi_model.specs.Views.{View, Way, flat_limit}
use Rattle.cm_abi_load.specs.Reading.{seen_by}
use Rattle.cm_abi_model.specs.declared.record.PartRecord.{PartRecord}
use Rattle.cm_abi_model.specs.declared.record.PartKind.{PartKind}
use Rattle.cm_abi_model.specs.declared.record.PartKind.TheVariants as kind
use Rattle.cm_abi_lift.specs.Records.{is_tagged, records_at, records_each, records_of_case, records_of_fields}
use Rattle.cm_abi_lift.specs.FlatRecords.{flat_records, flat_records_each, flat_records_of_case, flat_records_of_fields, passed_records, spilled_records}
use Rattle.cm_abi_model.specs.RecordRequests.{tag_before, tags_of}
use Rattle.cm_abi_copy.proofs.FlatTells.{at_first}
use Rattle.cm_abi_model.proofs.NumbersLaws.{at_second}
use Rattle.cm_types.proofs.CoreValueLaws.{drop_twice}
use Rattle.cm_lemmas.proofs.Bools.{not_both}

-- records and what is met have the same tags
abbrev SameTags : List PartRecord → List Met → Type 0
SameTags rs ms = tags_of rs ≡ model.tags_of ms

behind_one : (k : PartKind) (xs ys : List Bool) → tag_before k (xs ++ ys) ≡ tag_before k xs ++ ys
behind_one (kind.Text tag) xs ys = refl
behind_one kind.Elements xs ys = refl

tags_joined : (rs qs : List PartRecord) → tags_of (rs ++ qs) ≡ tags_of rs ++ tags_of qs
tags_joined [] qs = refl
tags_joined (r ∷ rs) qs = ap (tag_before r.kind) (tags_joined rs qs) ∙ behind_one r.kind (tags_of rs) (tags_of qs)

joined : (xs ys zs : List Bool) → xs ++ (ys ++ zs) ≡ (xs ++ ys) ++ zs
joined [] ys zs = refl
joined (x ∷ xs) ys zs = ap (λ l. x ∷ l) (joined xs ys zs)

met_joined : (ms ns : List Met) → model.tags_of (ms ++ ns) ≡ model.tags_of ms ++ model.tags_of ns
met_joined [] ns = refl
met_joined (text_content tags n ∷ ms) ns = ap (λ l. tags ++ l) (met_joined ms ns) ∙ joined tags (model.tags_of ms) (model.tags_of ns)
met_joined (content n ∷ ms) ns = met_joined ms ns
met_joined (taken i ∷ ms) ns = met_joined ms ns
met_joined (lent i ∷ ms) ns = met_joined ms ns

both : (rs qs : List PartRecord) (ms ns : List Met) → SameTags rs ms → SameTags qs ns → SameTags (rs ++ qs) (ms ++ ns)
both rs qs ms ns h k = tags_joined rs qs ∙ (ap (λ l. l ++ tags_of qs) h ∙ (ap (λ l. model.tags_of ms ++ l) k ∙ sym (met_joined ms ns)))

text_tags : (e : StringEncoding) (n : ℕ) → e ≡ encoding.Latin1OrUtf16 → is_tagged e n ∷ [] ≡ tag_of e n ++ []
text_tags encoding.Utf8 n is = absurd (cc)
text_tags encoding.Utf16 n is = absurd (cc)
text_tags encoding.Latin1OrUtf16 n is = refl

-- ---- in memory

each_tags : (S : ℕ → Val → Type 0) (R : ℕ → Val → List PartRecord) (M : ℕ → Val → List Met) (size at : ℕ) (vs : Vals)
    → ((p : ℕ) (v : Val) → S p v → SameTags (R p v) (M p v)) → ShowEach S size at vs → SameTags (records_each R size at vs) (met_each M size at vs)
each_tags S R M size at no_vals one h = refl
each_tags S R M size at (val v vs) one h =
    both (R at v) (records_each R size (at + size) vs) (M at v) (met_each M size (at + size) vs) (one at v h.0) (each_tags S R M size (at + size) vs one h.1)

none_tagged : (w : View) (target : StringEncoding) (cs : Cases) (i p : ℕ) → tags_of (records_of_case (seen_by w) target (payloads_from (payloads_of cs)) i p None) ≡ []
none_tagged w target no_cases i p = refl
none_tagged w target (plain l cs) zero p = refl
none_tagged w target (plain l cs) (suc i) p = none_tagged w target cs i p
none_tagged w target (carrying l t cs) zero p = refl
none_tagged w target (carrying l t cs) (suc i) p = none_tagged w target cs i p

module _ (w : View) (target : StringEncoding) (tagged : w.encoding ≡ encoding.Latin1OrUtf16) where
  mutual
    shown_tags : (t : Ty) (p : ℕ) (v : Val) → Shows w t p v → SameTags (records_at (seen_by w) target (shape_of_type t) p v) (met_at w t p v)
    shown_tags bool p (truth b) h = refl
    shown_tags (signed k) p (signed_number z) h = refl
    shown_tags (unsigned k) p (number n) h = refl
    shown_tags char p (scalar c) h = refl
    shown_tags string p (text cs) h = text_tags w.encoding (number_at 4 w.memory (p + 4)) tagged
    shown_tags (list t) p (elements vs) h = each_tags (Shows w t) (records_at (seen_by w) target (shape_of_type t)) (met_at w t) (size_of t) (number_at 4 w.memory p) vs (shown_tags t) h.each
    shown_tags (fixed_list t n) p (parts vs) h = each_tags (Shows w t) (records_at (seen_by w) target (shape_of_type t)) (met_at w t) (size_of t) p vs (shown_tags t) h.1
    shown_tags (fields k fs) p (parts vs) h = fields_tags fs p 0 vs h
    shown_tags (cases k cs) p (bare i) h = none_tagged w target cs i (p + payload_offset cs)
    shown_tags (cases k cs) p (bearing i v) h = payload_tags cs (p + payload_offset cs) i v h.1
    shown_tags (flags ls) p (flag_set n) h = refl
    shown_tags (own r) p (handle e) h = refl
    shown_tags (borrow r) p (handle e) h = refl
    shown_tags _ p _ h = absurd h

    fields_tags : (fs : Fields) (p end : ℕ) (vs : Vals) → ShowFields w fs p end vs
        → SameTags (records_of_fields (seen_by w) target (parts_from (parts_at fs end)) p vs) (met_in_fields w fs p end vs)
    fields_tags no_fields p end no_vals h = refl
    fields_tags no_fields p end (val v vs) h = absurd h
    fields_tags (field l t fs) p end no_vals h = absurd h
    fields_tags (field l t fs) p end (val v vs) h =
        let at = p + align_to (align_of t) end in
        let next = align_to (align_of t) end + size_of t in
        both (records_at (seen_by w) target (shape_of_type t) at v) (records_of_fields (seen_by w) target (parts_from (parts_at fs next)) p vs)
        (met_at w t at v) (met_in_fields w fs p next vs) (shown_tags t at v h.0) (fields_tags fs p next vs h.1)

    payload_tags : (cs : Cases) (p i : ℕ) (v : Val) → ShowsPayload w cs p i v
        → SameTags (records_of_case (seen_by w) target (payloads_from (payloads_of cs)) i p (Some v)) (met_in_payload w cs p i v)
    payload_tags no_cases p i v h = absurd h
    payload_tags (plain l cs) p zero v h = absurd h
    payload_tags (plain l cs) p (suc i) v h = payload_tags cs p i v h
    payload_tags (carrying l t cs) p zero v h = shown_tags t p v h
    payload_tags (carrying l t cs) p (suc i) v h = payload_tags cs p i v h

-- ---- in core values

flat_each_tags : (s : List CoreValue) (S : ℕ → Val → Type 0) (R : List CoreValue → Val → List PartRecord) (M : ℕ → Val → List Met) (width k : ℕ) (vs : Vals)
    → ((j : ℕ) (v : Val) → S j v → SameTags (R (drop j s) v) (M j v)) → ShowEach S width k vs → SameTags (flat_records_each R width (drop k s) vs) (met_each M width k vs)
flat_each_tags s S R M width k no_vals one h = refl
flat_each_tags s S R M width k (val v vs) one h =
    let rest = ap (λ z. tags_of (flat_records_each R width z vs)) (drop_twice width k s) ∙ flat_each_tags s S R M width (k + width) vs one h.1 in
    both (R (drop k s) v) (flat_records_each R width (drop width (drop k s)) vs) (M k v) (met_each M width (k + width) vs) (one k v h.0) rest

none_flat : (w : View) (target : StringEncoding) (cs : Cases) (i : ℕ) (s : List CoreValue) → tags_of (flat_records_of_case (seen_by w) target (payloads_from (payloads_of cs)) i s None) ≡ []
none_flat w target no_cases i s = refl
none_flat w target (plain l cs) zero s = refl
none_flat w target (plain l cs) (suc i) s = none_flat w target cs i s
none_flat w target (carrying l t cs) zero s = refl
none_flat w target (carrying l t cs) (suc i) s = none_flat w target cs i s

module _ (w : View) (target : StringEncoding) (s : List CoreValue) (tagged : w.encoding ≡ encoding.Latin1OrUtf16) where
  mutual
    flat_tags : (t : Ty) (k : ℕ) (v : Val) → FlatShows w s t k v → SameTags (flat_records (seen_by w) target (shape_of_type t) (drop k s) v) (met_flat w s t k v)
    flat_tags bool k (truth b) h = refl
    flat_tags (signed b) k (signed_number z) h = refl
    flat_tags (unsigned b) k (number n) h = refl
    flat_tags char k (scalar c) h = refl
    flat_tags string k (text cs) h = ap (λ n. is_tagged w.encoding n ∷ []) (at_second s k) ∙ text_tags w.encoding (wrapped_at 4 s (k + 1)) tagged
    flat_tags (list t) k (elements vs) h =
        ap (λ a. tags_of (records_each (records_at (seen_by w) target (shape_of_type t)) (size_of t) a vs)) (at_first s k)
        ∙ each_tags (Shows w t) (records_at (seen_by w) target (shape_of_type t)) (met_at w t) (size_of t) (wrapped_at 4 s k) vs (shown_tags w target tagged t) h.each
    flat_tags (fixed_list t n) k (parts vs) h = flat_each_tags s (FlatShows w s t) (flat_records (seen_by w) target (shape_of_type t)) (met_flat w s t) (width_of t) k vs (flat_tags t) h.1
    flat_tags (fields f fs) k (parts vs) h = flat_fields_tags fs 0 k vs h
    flat_tags (cases c cs) k (bare i) h = none_flat w target cs i (drop 1 (drop k s))
    flat_tags (cases c cs) k (bearing i v) h =
        ap (λ z. tags_of (flat_records_of_case (seen_by w) target (payloads_from (payloads_of cs)) i z (Some v))) (drop_twice 1 k s) ∙ flat_payload_tags cs (k + 1) i v h.1
    flat_tags (flags ls) k (flag_set n) h = refl
    flat_tags (own r) k (handle e) h = refl
    flat_tags (borrow r) k (handle e) h = refl
    flat_tags _ k _ h = absurd h

    flat_fields_tags : (fs : Fields) (end k : ℕ) (vs : Vals) → FlatShowFields w s fs k vs
        → SameTags (flat_records_of_fields (seen_by w) target (parts_from (parts_at fs end)) (drop k s) vs) (met_flat_fields w s fs k vs)
    flat_fields_tags no_fields end k no_vals h = refl
    flat_fields_tags no_fields end k (val v vs) h = absurd h
    flat_fields_tags (field l t fs) end k no_vals h = absurd h
    flat_fields_tags (field l t fs) end k (val v vs) h =
        let next = align_to (align_of t) end + size_of t in
        let rest = ap (λ z. tags_of (flat_records_of_fields (seen_by w) target (parts_from (parts_at fs next)) z vs)) (drop_twice (width_of t) k s) ∙ flat_fields_tags fs next (k + width_of t) vs h.1 in
        both (flat_records (seen_by w) target (shape_of_type t) (drop k s) v) (flat_records_of_fields (seen_by w) target (parts_from (parts_at fs next)) (drop (width_of t) (drop k s)) vs)
        (met_flat w s t k v) (met_flat_fields w s fs (k + width_of t) vs) (flat_tags t k v h.0) rest

    flat_payload_tags : (cs : Cases) (k i : ℕ) (v : Val) → FlatShowsPayload w s cs k i v
        → SameTags (flat_records_of_case (seen_by w) target (payloads_from (payloads_of cs)) i (drop k s) (Some v)) (met_flat_payload w s cs k i v)
    flat_payload_tags no_cases k i v h = absurd h
    flat_payload_tags (plain l cs) k zero v h = absurd h
    flat_payload_tags (plain l cs) k (suc i) v h = flat_payload_tags cs k i v h
    flat_payload_tags (carrying l t cs) k zero v h = flat_tags t k v h
    flat_payload_tags (carrying l t cs) k (suc i) v h = flat_payload_tags cs k i v h

-- ---- what is passed

by_way : (w : View) (target : StringEncoding) (types : Fields) (slots : List CoreValue) (v : Val) (b : Bool) → w.encoding ≡ encoding.Latin1OrUtf16
    → (b ≡ true → Shows w (tuple_of types) (wrapped_at 4 slots 0) v) → (b ≡ false → FlatShows w slots (tuple_of types) 0 v)
    → SameTags (if b then spilled_records (seen_by w) target (layout_of_fields_at types) (wrapped_at 4 slots 0) v else flat_records (seen_by w) target (shape_of_type (tuple_of types)) slots v)
    (if b then met_at w (tuple_of types) (wrapped_at 4 slots 0) v else met_flat w slots (tuple_of types) 0 v)
by_way w target types slots v true tagged spilled flat = shown_tags w target tagged (tuple_of types) (wrapped_at 4 slots 0) v (spilled refl)
by_way w target types slots v false tagged spilled flat = flat_tags w target slots tagged (tuple_of types) 0 v (flat refl)

pub passed_tags : (w : View) (target : StringEncoding) (way : Way) (types : Fields) (slots : List CoreValue) (v : Val) → w.encoding ≡ encoding.Latin1OrUtf16 → Denotes w way types slots v
    → SameTags (passed_records (seen_by w) target (flat_limit way) (layout_of_fields_at types) slots v) (met w way types slots v)
passed_tags w target way types slots v tagged (inl x) =
    by_way w target types slots v (is_spilled way types) tagged (λ is. absurd (not_both (is_spilled way types) is (le-ltb (flat_limit way) (length (flat_of_fields types)) x.fits))) (λ is. x.shown)
passed_tags w target way types slots v tagged (inr x) =
    by_way w target types slots v (is_spilled way types) tagged (λ is. x.shown) (λ is. absurd (not_both (is_spilled way types) (lt-ltb (flat_limit way) (length (flat_of_fields types)) x.spilled) is))
