-- The records of what bytes show tell its parts.
use Rattle.std.proofs.Common.{◌≡◌, ℕ, zero, suc, ◌+◌, ◌*◌, ◌/◌, ◌<◌, ◌≤◌, List, [], ◌∷◌, length, drop, Some, None, refl, sym, ap, subst, ◌∙◌, arith, length-drop}
use Rattle.std.specs.Prelude.{nat_lt}
use Rattle.std.proofs.lemmas.List.{length-take-le}
use Rattle.cm_types.specs.Types.{Ty, Fields, Cases, bool, signed, unsigned, char, string, list, fixed_list, fields, cases, flags, own, borrow, no_fields, field, no_cases, plain, carrying}
use Rattle.cm_types.specs.Values.{Val, Vals, no_vals, val, truth, signed_number, number, scalar, text, elements, parts, bare, bearing, flag_set, handle, count_of}
use Rattle.cm_layout.specs.Alignment.{align_to}
use Rattle.cm_layout.specs.Shapes.{head_of, parts_at, parts_from, payloads_from, payloads_of, shape_of_type}
use Rattle.cm_layout.specs.Sizes.{align_of, payload_offset, size_of}
use Rattle.cm_abi_model.specs.declared.encoding.StringEncoding.{StringEncoding}
use Rattle.cm_abi_model.specs.declared.encoding.StringEncoding.TheVariants as encoding
use Rattle.cm_abi_model.specs.Numbers.{number_at}
use Rattle.cm_abi_model.specs.Parts.{Part, text_part, element_part, parts_each, parts_in, parts_in_fields, parts_in_payload}
use Rattle.cm_abi_model.specs.Requests.{read_charset, text_bytes}
use Rattle.cm_abi_model.specs.Shows.{ShowEach, ShowFields, Shows, ShowsElements, ShowsPayload}
use Rattle.cm_abi_model.specs.Texts.{Charset, Has, ShowsText, UTF16_TAG, bytes_from, charset_of, latin1, spell, text_size, unit_size, units_of, utf16, utf8}
use Rattle.cm_abi_model.specs.Views.{View}
use Rattle.cm_text.specs.Text.{IsText}
use Rattle.cm_abi_load.specs.Reading.{seen_by}
use Rattle.cm_abi_model.specs.declared.record.PartRecord.{PartRecord}
use Rattle.cm_abi_model.specs.Places.{places_at, places_each, places_in_fields, places_in_payload}
use Rattle.cm_abi_lift.specs.Records.{element_record, is_tagged, records_at, records_each, records_of_case, records_of_fields, records_of_list, text_record}
use Rattle.cm_abi_model.specs.Telling.{TellAll, Tells, TellsText}
use Rattle.cm_abi_model.proofs.TextsLaws.{by_tag, text_some}
use Rattle.cm_abi_model.proofs.TellingLaws.{tell_both}

-- ---- strings

same_charset : (e : StringEncoding) (n : ℕ) → read_charset e (is_tagged e n) ≡ charset_of e n
same_charset encoding.Utf8 n = refl
same_charset encoding.Utf16 n = refl
same_charset encoding.Latin1OrUtf16 n = by_tag (nat_lt n UTF16_TAG)

units_back : (s : Charset) (n m : ℕ) → m ≡ unit_size s * n → n ≡ m / unit_size s
units_back utf8 n m is = omega (arith, is)
units_back utf16 n m is = omega (arith, is)
units_back latin1 n m is = omega (arith, is)

text_as : (w : View) (target : StringEncoding) (at n : ℕ) (cs : List ℕ) (s : Charset) → charset_of w.encoding n ≡ s → ShowsText w.encoding w.memory at n cs
    → TellsText w s (text_record w.encoding target at n (text cs)) cs
text_as w target at n cs s is shown =
    let room : text_size w.encoding n ≤ length (drop at w.memory) = omega (arith, shown.inside, length-drop at w.memory) in
    let size_is : length (text_bytes (charset_of w.encoding n) cs) ≡ text_size w.encoding n =
    ap length shown.text.is ∙ length-take-le (text_size w.encoding n) (drop at w.memory) room in
    let text_is : IsText (Has (charset_of w.encoding n)) (spell (charset_of w.encoding n)) cs (bytes_from w.memory at (length (text_bytes (charset_of w.encoding n) cs))) =
    subst (λ z. IsText (Has (charset_of w.encoding n)) (spell (charset_of w.encoding n)) cs (bytes_from w.memory at z)) (sym size_is) shown.text in
    subst (λ x. TellsText w x (text_record w.encoding target at n (text cs)) cs) is
    (record { units = units_back (charset_of w.encoding n) (units_of w.encoding n) (length (text_bytes (charset_of w.encoding n) cs)) size_is; text = text_is })

pub text_tells : (w : View) (target : StringEncoding) (at n : ℕ) (cs : List ℕ) → ShowsText w.encoding w.memory at n cs
    → Tells w target (text_record w.encoding target at n (text cs)) (text_part cs) at
text_tells w target at n cs shown =
    record {
      place = refl;
      source = text_as w target at n cs (read_charset w.encoding (is_tagged w.encoding n)) (sym (same_charset w.encoding n)) shown;
      size = refl;
      align = refl;
      aligned = text_some target;
    }

-- ---- lists

pub each_tells : (w : View) (target : StringEncoding) (S : ℕ → Val → Type 0) (R : ℕ → Val → List PartRecord) (P : Val → List Part) (M : ℕ → Val → List ℕ) (size at : ℕ) (vs : Vals)
    → ((p : ℕ) (v : Val) → S p v → TellAll w target (R p v) (P v) (M p v))
    → ShowEach S size at vs → TellAll w target (records_each R size at vs) (parts_each P vs) (places_each M size at vs)
each_tells w target S R P M size at no_vals one h = tt
each_tells w target S R P M size at (val v vs) one h =
    tell_both w target (R at v) (records_each R size (at + size) vs) (P v) (parts_each P vs) (M at v) (places_each M size (at + size) vs)
    (one at v h.0) (each_tells w target S R P M size (at + size) vs one h.1)

-- the elements of a list at a pointer, by their type
pub elements_tell : (w : View) (target : StringEncoding) (t : Ty) (at n : ℕ) (vs : Vals) → 0 < align_of t → count_of vs ≡ n
    → Tells w target (element_record (head_of t) at n) (element_part (count_of vs) (size_of t) (align_of t)) at
elements_tell w target t at n vs some count =
    record { place = refl; source = sym count; size = ap (λ m. m * size_of t) (sym count); align = refl; aligned = some }

-- ---- cases that carry nothing

pub none_told : (w : View) (target : StringEncoding) (cs : Cases) (i p : ℕ) → records_of_case (seen_by w) target (payloads_from (payloads_of cs)) i p None ≡ []
none_told w target no_cases i p = refl
none_told w target (plain l cs) zero p = refl
none_told w target (plain l cs) (suc i) p = none_told w target cs i p
none_told w target (carrying l t cs) zero p = refl
none_told w target (carrying l t cs) (suc i) p = none_told w target cs i p

module _ (some : (t : Ty) → 0 < align_of t) (w : View) (target : StringEncoding) where
  mutual
    pub shown_tells : (t : Ty) (p : ℕ) (v : Val) → Shows w t p v → TellAll w target (records_at (seen_by w) target (shape_of_type t) p v) (parts_in t v) (places_at w t p v)
    shown_tells bool p (truth b) h = tt
    shown_tells (signed k) p (signed_number z) h = tt
    shown_tells (unsigned k) p (number n) h = tt
    shown_tells char p (scalar c) h = tt
    shown_tells string p (text cs) h = (text_tells w target (number_at 4 w.memory p) (number_at 4 w.memory (p + 4)) cs h, tt)
    shown_tells (list t) p (elements vs) h = (
      elements_tell w target t (number_at 4 w.memory p) (number_at 4 w.memory (p + 4)) vs (some t) h.count,
      each_tells w target (Shows w t) (records_at (seen_by w) target (shape_of_type t)) (parts_in t) (places_at w t) (size_of t) (number_at 4 w.memory p) vs (shown_tells t) h.each,
    )
    shown_tells (fixed_list t n) p (parts vs) h = each_tells w target (Shows w t) (records_at (seen_by w) target (shape_of_type t)) (parts_in t) (places_at w t) (size_of t) p vs (shown_tells t) h.1
    shown_tells (fields k fs) p (parts vs) h = fields_tell fs p 0 vs h
    shown_tells (cases k cs) p (bare i) h = subst (λ rs. TellAll w target rs [] []) (sym (none_told w target cs i (p + payload_offset cs))) tt
    shown_tells (cases k cs) p (bearing i v) h = payload_tells cs (p + payload_offset cs) i v h.1
    shown_tells (flags ls) p (flag_set n) h = tt
    shown_tells (own r) p (handle e) h = tt
    shown_tells (borrow r) p (handle e) h = tt
    shown_tells _ p _ h = absurd h

    fields_tell : (fs : Fields) (p end : ℕ) (vs : Vals) → ShowFields w fs p end vs
        → TellAll w target (records_of_fields (seen_by w) target (parts_from (parts_at fs end)) p vs) (parts_in_fields fs vs) (places_in_fields w fs p end vs)
    fields_tell no_fields p end no_vals h = tt
    fields_tell no_fields p end (val v vs) h = absurd h
    fields_tell (field l t fs) p end no_vals h = absurd h
    fields_tell (field l t fs) p end (val v vs) h =
        let at = p + align_to (align_of t) end in
        let next = align_to (align_of t) end + size_of t in
        tell_both w target (records_at (seen_by w) target (shape_of_type t) at v) (records_of_fields (seen_by w) target (parts_from (parts_at fs next)) p vs) (parts_in t v) (parts_in_fields fs vs)
        (places_at w t at v) (places_in_fields w fs p next vs) (shown_tells t at v h.0) (fields_tell fs p next vs h.1)

    payload_tells : (cs : Cases) (p i : ℕ) (v : Val) → ShowsPayload w cs p i v
        → TellAll w target (records_of_case (seen_by w) target (payloads_from (payloads_of cs)) i p (Some v)) (parts_in_payload cs i v) (places_in_payload w cs p i v)
    payload_tells no_cases p i v h = absurd h
    payload_tells (plain l cs) p zero v h = absurd h
    payload_tells (plain l cs) p (suc i) v h = payload_tells cs p i v h
    payload_tells (carrying l t cs) p zero v h = shown_tells t p v h
    payload_tells (carrying l t cs) p (suc i) v h = payload_tells cs p i v h

pub list_tells : (some : (t : Ty) → 0 < align_of t) (w : View) (target : StringEncoding) (t : Ty) (at n : ℕ) (vs : Vals) → ShowsElements (Shows w t) w.memory (align_of t) (size_of t) at n vs
    → TellAll w target (records_of_list (records_at (seen_by w) target (shape_of_type t)) (head_of t) at n (elements vs)) (parts_in (list t) (elements vs)) (at ∷ places_each (places_at w t) (size_of t) at vs)
list_tells some w target t at n vs h = (
  elements_tell w target t at n vs (some t) h.count,
  each_tells w target (Shows w t) (records_at (seen_by w) target (shape_of_type t)) (parts_in t) (places_at w t) (size_of t) at vs (λ p v shown. shown_tells some w target t p v shown) h.each,
)
