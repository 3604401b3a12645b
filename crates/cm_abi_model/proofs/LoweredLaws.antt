-- Where the parts of what is passed stand among core values.
use Rattle.std.proofs.Common.{◌≡◌, ℕ, zero, suc, ◌+◌, ◌/◌, ◌<◌, ◌⊎◌, inl, inr, List, [], ◌∷◌, ◌++◌, length, Some, None, sym, ap, subst, ◌∙◌, arith}
use Rattle.std.proofs.lemmas.List.{get_or_default}
use Rattle.std.specs.Prelude.{slice_index_or}
use Rattle.cm_types.specs.declared.core_value.CoreValue.{CoreValue}
use Rattle.cm_types.specs.declared.core_value.CoreValue.TheVariants as core_value
use Rattle.cm_types.specs.declared.resource.ResourceId.{ResourceId}
use Rattle.cm_types.specs.Types.{Ty, Fields, FieldsKind, Cases, CasesKind, string, list, fields, cases, own, borrow, no_fields, field, no_cases, plain, carrying}
use Rattle.cm_types.specs.Values.{Val, Vals, HandleValue, no_vals, val, text, elements, parts, bare, bearing, handle, count_of}
use Rattle.cm_layout.specs.Sizes.{field_count, field_type}
use Rattle.cm_abi_model.specs.FlatShows.{width_of}
use Rattle.cm_abi_model.specs.Numbers.{slot_at, slot_number}
use Rattle.cm_abi_model.specs.Parts.{handle_count, part_count}
use Rattle.cm_abi_model.specs.Receives.{SlotsHold, slots_of, slots_of_fields, slots_of_payload}
use Rattle.cm_abi_model.specs.Requests.{text_units}
use Rattle.cm_abi_model.specs.Stores.{Given, Placed, number_of, place_of}
use Rattle.cm_abi_model.specs.Texts.{utf8, utf16}
use Rattle.cm_abi_model.specs.PartPlaces.{IsCase, value_at}
use Rattle.cm_abi_model.specs.Passed.{AreFirst, IsCore}
use Rattle.cm_abi_model.specs.Strings.{utf16_units, utf8_units}
use Rattle.cm_abi_model.proofs.AskingLaws.{half}
use Rattle.cm_abi_model.proofs.PassedLaws.{first_from, first_is}

slots_front : (m : List CoreValue) (xs ys : List Placed) → SlotsHold m (xs ++ ys) → SlotsHold m xs
slots_front m [] ys h = tt {0}
slots_front m (x ∷ xs) ys h = (h.0, slots_front m xs ys h.1)

slots_back : (m : List CoreValue) (xs ys : List Placed) → SlotsHold m (xs ++ ys) → SlotsHold m ys
slots_back m [] ys h = h
slots_back m (x ∷ xs) ys h = slots_back m xs ys h.1

core_of : (c : CoreValue) (n : ℕ) → slot_number c ≡ n → (c ≡ core_value.I32 n) ⊎ (c ≡ core_value.I64 n)
core_of (core_value.I32 m) n e = inl (ap core_value.I32 e)
core_of (core_value.I64 m) n e = inr (ap core_value.I64 e)

is_core : (slots : List CoreValue) (k n : ℕ) → k < length slots → slot_at slots k ≡ n → IsCore slots k n
is_core slots k n lt e = record {
  there = lt;
  number = elim (core_of (slice_index_or slots k (core_value.I32 0)) n e) [
    | inl i ↦ inl (get_or_default slots k (core_value.I32 n) (core_value.I32 0) lt ∙ i)
    | inr i ↦ inr (get_or_default slots k (core_value.I64 n) (core_value.I32 0) lt ∙ i)
  ];
}

pub utf8_lowered : (m : List CoreValue) (g : Given) (cs : List ℕ) (s k h : ℕ) → g.charset ≡ utf8 → s + 1 < length m → SlotsHold m (slots_of g string (text cs) s k h)
    → IsCore m s (place_of g k) × IsCore m (s + 1) (length (utf8_units cs))
utf8_lowered m g cs s k h is lt held =
    let same : length (utf8_units cs) / 1 ≡ length (utf8_units cs) = omega arith in
    (is_core m s (place_of g k) (omega (arith, lt)) held.0, is_core m (s + 1) (length (utf8_units cs)) lt (held.1.0 ∙ ap (λ x. text_units x cs) is ∙ same))

pub utf16_lowered : (m : List CoreValue) (g : Given) (cs : List ℕ) (s k h : ℕ) → g.charset ≡ utf16 → s + 1 < length m → SlotsHold m (slots_of g string (text cs) s k h)
    → IsCore m s (place_of g k) × IsCore m (s + 1) (length (utf16_units cs))
utf16_lowered m g cs s k h is lt held =
    (is_core m s (place_of g k) (omega (arith, lt)) held.0, is_core m (s + 1) (length (utf16_units cs)) lt (held.1.0 ∙ ap (λ x. text_units x cs) is ∙ half cs))

pub list_lowered : (m : List CoreValue) (g : Given) (t : Ty) (vs : Vals) (s k h : ℕ) → s + 1 < length m → SlotsHold m (slots_of g (list t) (elements vs) s k h)
    → IsCore m s (place_of g k) × IsCore m (s + 1) (count_of vs)
list_lowered m g t vs s k h lt held = (is_core m s (place_of g k) (omega (arith, lt)) held.0, is_core m (s + 1) (count_of vs) lt held.1.0)

pub own_lowered : (m : List CoreValue) (g : Given) (r : ResourceId) (e : HandleValue) (s k h : ℕ) → s < length m → SlotsHold m (slots_of g (own r) (handle e) s k h) → IsCore m s (number_of g h)
own_lowered m g r e s k h lt held = is_core m s (number_of g h) lt held.0

pub borrow_lowered : (m : List CoreValue) (g : Given) (r : ResourceId) (e : HandleValue) (s k h : ℕ) → s < length m → SlotsHold m (slots_of g (borrow r) (handle e) s k h) → IsCore m s (number_of g h)
borrow_lowered m g r e s k h lt held = is_core m s (number_of g h) lt held.0

pub bare_lowered : (m : List CoreValue) (g : Given) (x : CasesKind) (cs : Cases) (i s k h : ℕ) → s < length m → SlotsHold m (slots_of g (cases x cs) (bare i) s k h) → IsCore m s i
bare_lowered m g x cs i s k h lt held = is_core m s i lt held.0

payload_put : (m : List CoreValue) (g : Given) (cs : Cases) (i : ℕ) (v : Val) (s k h : ℕ) (t : Ty) → IsCase cs i (Some t) → SlotsHold m (slots_of_payload g cs i v s k h) → SlotsHold m (slots_of g t v s k h)
payload_put m g no_cases i v s k h t c held = absurd c
payload_put m g (plain l cs) zero v s k h t c held = absurd (some_none c)
  where
    some_none : Some t ≡ None → ⊥
    some_none e = cc
payload_put m g (plain l cs) (suc i) v s k h t c held = payload_put m g cs i v s k h t c held
payload_put m g (carrying l u cs) zero v s k h t c held = subst (λ x. SlotsHold m (slots_of g x v s k h)) (sym (some_is c)) held
  where
    some_is : Some t ≡ Some u → t ≡ u
    some_is e = cc
payload_put m g (carrying l u cs) (suc i) v s k h t c held = payload_put m g cs i v s k h t c held

pub bearing_lowered : (m : List CoreValue) (g : Given) (x : CasesKind) (cs : Cases) (i s k h : ℕ) (v : Val) (t : Ty) → s < length m → IsCase cs i (Some t)
    → SlotsHold m (slots_of g (cases x cs) (bearing i v) s k h) → IsCore m s i × SlotsHold m (slots_of g t v (s + 1) k h)
bearing_lowered m g x cs i s k h v t lt c held = (is_core m s i lt held.0, payload_put m g cs i v (s + 1) k h t c held.1)

fields_put : (m : List CoreValue) (g : Given) (fs : Fields) (vs : Vals) (s k h : ℕ) → count_of vs ≡ field_count fs → SlotsHold m (slots_of_fields g fs vs s k h) → (i : ℕ) → i < field_count fs
    → (a : ℕ) × (b : ℕ) × SlotsHold m (slots_of g (field_type fs i) (value_at vs i) (s + first_from fs i) a b)
unfolding first_from
fields_put m g no_fields vs s k h n held i lt = absurd (omega (arith, lt))
fields_put m g (field l t fs) no_vals s k h n held i lt = absurd (omega (arith, n))
fields_put m g (field l t fs) (val v vs) s k h n held zero lt =
    (k, h, subst (λ q. SlotsHold m (slots_of g t v q k h)) {x = s} {y = s + 0} (omega arith) (slots_front m (slots_of g t v s k h) (slots_of_fields g fs vs (s + width_of t) (k + part_count v) (h + handle_count v)) held))
fields_put m g (field l t fs) (val v vs) s k h n held (suc i) lt =
    let rest = fields_put m g fs vs (s + width_of t) (k + part_count v) (h + handle_count v) (omega (arith, n))
    (slots_back m (slots_of g t v s k h) (slots_of_fields g fs vs (s + width_of t) (k + part_count v) (h + handle_count v)) held) i (omega (arith, lt)) in
    (rest.0, rest.1, subst (λ q. SlotsHold m (slots_of g (field_type fs i) (value_at vs i) q rest.0 rest.1)) {x = s + width_of t + first_from fs i} {y = s + (width_of t + first_from fs i)} (omega arith) rest.2)

pub fields_lowered : (m : List CoreValue) (g : Given) (x : FieldsKind) (fs : Fields) (first : ℕ → ℕ) (vs : Vals) (s k h : ℕ) → AreFirst fs first → count_of vs ≡ field_count fs
    → SlotsHold m (slots_of g (fields x fs) (parts vs) s k h) → (i : ℕ) → i < field_count fs → (a : ℕ) × (b : ℕ) × SlotsHold m (slots_of g (field_type fs i) (value_at vs i) (s + first i) a b)
fields_lowered m g x fs first vs s k h o n held i lt =
    let r = fields_put m g fs vs s k h n held i lt in
    (r.0, r.1, subst (λ q. SlotsHold m (slots_of g (field_type fs i) (value_at vs i) (s + q) r.0 r.1)) (sym (first_is fs first o i lt)) r.2)
