-- Where the parts of what is stored stand.
use Rattle.std.proofs.Common.{◌≡◌, ℕ, zero, suc, ◌+◌, ◌*◌, ◌/◌, ◌^◌, ◌<◌, ◌≤◌, List, [], ◌∷◌, ◌++◌, length, slice_index, Some, None, sym, ap, subst, ◌∙◌, arith}
use Rattle.std.specs.List.{flat_map}
use Rattle.cm_text.specs.Utf16.{bytes_of_unit, spell_utf16}
use Rattle.cm_types.specs.declared.resource.ResourceId.{ResourceId}
use Rattle.cm_types.specs.Types.{Ty, Fields, FieldsKind, Cases, CasesKind, string, list, fixed_list, fields, cases, own, borrow, no_fields, field, no_cases, plain, carrying}
use Rattle.cm_types.specs.Values.{Val, Vals, HandleValue, no_vals, val, text, elements, parts, bare, bearing, handle, count_of}
use Rattle.cm_layout.specs.Alignment.{IsLeastMultiple, align_to}
use Rattle.cm_layout.specs.Sizes.{IsLeastBytes, align_of, case_count, discriminant_size, field_count, field_offset_from, field_type, payload_offset, size_of}
use Rattle.cm_abi_model.specs.Parts.{handle_count, part_count}
use Rattle.cm_abi_model.specs.Requests.{text_bytes, text_units}
use Rattle.cm_abi_model.specs.Stores.{Given, Holds, Placed, Storing, bytes_of, number_of, place_of, placed, pointer_bytes, store_each, stored, stored_fields, stored_payload}
use Rattle.cm_abi_model.specs.Texts.{utf8, utf16}
use Rattle.cm_abi_model.specs.Bytes.{AreBytes, StandsAt}
use Rattle.cm_abi_model.specs.PartPlaces.{AreOffsets, IsCase, IsGreatestAlignment, value_at}
use Rattle.cm_abi_model.specs.Strings.{StandInRow, utf16_units, utf8_units}
use Rattle.cm_abi_model.proofs.AskingLaws.{half}
use Rattle.cm_abi_model.proofs.FieldLaws.{LeastSizes, offset_here, size_is}
use Rattle.cm_abi_model.proofs.NumberLaws.{held_stands}
use Rattle.cm_abi_model.proofs.PlaceLaws.{offset_is}
use Rattle.cm_abi_model.proofs.StringLaws.{one_byte, unit_high, unit_low, unit_stands, units_flat}
use Rattle.cm_text.proofs.Utf16Laws.{unit_length}

holds_front : (m : List ℕ) (xs ys : List Placed) → Holds m (xs ++ ys) → Holds m xs
holds_front m [] ys h = tt {0}
holds_front m (x ∷ xs) ys h = (h.0, holds_front m xs ys h.1)

holds_back : (m : List ℕ) (xs ys : List Placed) → Holds m (xs ++ ys) → Holds m ys
holds_back m [] ys h = h
holds_back m (x ∷ xs) ys h = holds_back m xs ys h.1

held_at : (m bs : List ℕ) (at i : ℕ) → Holds m (placed at bs) → i < length bs → slice_index m (at + i) ≡ slice_index bs i
held_at m [] at i h lt = absurd (omega (arith, lt))
held_at m (b ∷ bs) at zero h lt = ap (slice_index m) {x = at + 0} {y = at} (omega arith) ∙ h.0
held_at m (b ∷ bs) at (suc i) h lt = ap (slice_index m) {x = at + suc i} {y = (at + 1) + i} (omega arith) ∙ held_at m bs (at + 1) i h.1 (omega (arith, lt))

-- ---- pointers

pointer_stands : (m : List ℕ) (p at n : ℕ) → at < 2 ^ 32 → n < 2 ^ 32 → Holds m (pointer_bytes p at n) → StandsAt m p 4 at × StandsAt m (p + 4) 4 n
pointer_stands m p at n a b h =
    (held_stands 4 m p at a (holds_front m (placed p (bytes_of 4 at)) (placed (p + 4) (bytes_of 4 n)) h), held_stands 4 m (p + 4) n b (holds_back m (placed p (bytes_of 4 at)) (placed (p + 4) (bytes_of 4 n)) h))

pub utf8_stored : (m : List ℕ) (g : Given) (cs : List ℕ) (p k h : ℕ) → AreBytes m → g.charset ≡ utf8 → place_of g k + length (utf8_units cs) ≤ length m → length m < 2 ^ 32
    → Holds m (stored g string (text cs) p k h) → StandsAt m p 4 (place_of g k) × StandsAt m (p + 4) 4 (length (utf8_units cs)) × StandInRow m (place_of g k) 1 (utf8_units cs)
utf8_stored m g cs p k h bytes is inside small held =
    let at = place_of g k in
    let xs = utf8_units cs in
    let same : length xs / 1 ≡ length xs = omega arith in
    let here : Holds m (pointer_bytes p at (length xs / 1) ++ placed at xs) = subst (λ s. Holds m (pointer_bytes p at (text_units s cs) ++ placed at (text_bytes s cs))) is held in
    let front = pointer_stands m p at (length xs / 1) (omega (arith, inside, small)) (omega (arith, inside, small, same)) (holds_front m (pointer_bytes p at (length xs / 1)) (placed at xs) here) in
    let back : Holds m (placed at xs) = holds_back m (pointer_bytes p at (length xs / 1)) (placed at xs) here in (
      front.0,
      subst (λ n. StandsAt m (p + 4) 4 n) same front.1,
      record {
        inside = omega (arith, inside);
        each = λ i lt. one_byte m (at + 1 * i) (slice_index xs i) bytes (ap (slice_index m) {x = at + 1 * i} {y = at + i} (omega arith) ∙ held_at m xs at i back lt);
      },
    )

pub utf16_stored : (m : List ℕ) (g : Given) (cs : List ℕ) (p k h : ℕ) → AreBytes m → g.charset ≡ utf16 → place_of g k + 2 * length (utf16_units cs) ≤ length m → length m < 2 ^ 32
    → Holds m (stored g string (text cs) p k h) → StandsAt m p 4 (place_of g k) × StandsAt m (p + 4) 4 (length (utf16_units cs)) × StandInRow m (place_of g k) 2 (utf16_units cs)
utf16_stored m g cs p k h bytes is inside small held =
    let at = place_of g k in
    let us = utf16_units cs in
    let xs = flat_map spell_utf16 cs in
    let same : length xs / 2 ≡ length us = half cs in
    let here : Holds m (pointer_bytes p at (length xs / 2) ++ placed at xs) = subst (λ s. Holds m (pointer_bytes p at (text_units s cs) ++ placed at (text_bytes s cs))) is held in
    let front = pointer_stands m p at (length xs / 2) (omega (arith, inside, small)) (omega (arith, inside, small, same)) (holds_front m (pointer_bytes p at (length xs / 2)) (placed at xs) here) in
    let back : Holds m (placed at (flat_map bytes_of_unit us)) = subst (λ ys. Holds m (placed at ys)) (units_flat cs) (holds_back m (pointer_bytes p at (length xs / 2)) (placed at xs) here) in
    let long = unit_length us in (
      front.0,
      subst (λ n. StandsAt m (p + 4) 4 n) same front.1,
      record {
        inside = inside;
        each = λ i lt. unit_stands m (at + 2 * i) (slice_index us i) bytes
            (held_at m (flat_map bytes_of_unit us) at (2 * i) back (omega (arith, lt, long)) ∙ unit_low us i lt)
            (ap (slice_index m) {x = (at + 2 * i) + 1} {y = at + (2 * i + 1)} (omega arith) ∙ held_at m (flat_map bytes_of_unit us) at (2 * i + 1) back (omega (arith, lt, long)) ∙ unit_high us i lt);
      },
    )

-- ---- rows and fields

each_held : (m : List ℕ) (S : Storing) (size : ℕ) (vs : Vals) (p k h : ℕ) → Holds m (store_each S size vs p k h) → (i : ℕ) → i < count_of vs
    → (a : ℕ) × (b : ℕ) × Holds m (S (value_at vs i) (p + i * size) a b)
each_held m S size no_vals p k h held i lt = absurd (omega (arith, lt))
each_held m S size (val v vs) p k h held zero lt =
    let first : p ≡ p + 0 * size = omega arith in
    (k, h, subst (λ q. Holds m (S v q k h)) first (holds_front m (S v p k h) (store_each S size vs (p + size) (k + part_count v) (h + handle_count v)) held))
each_held m S size (val v vs) p k h held (suc i) lt =
    let rest = each_held m S size vs (p + size) (k + part_count v) (h + handle_count v) (holds_back m (S v p k h) (store_each S size vs (p + size) (k + part_count v) (h + handle_count v)) held) i (omega (arith, lt)) in
    let next : (p + size) + i * size ≡ p + suc i * size = omega arith in
    (rest.0, rest.1, subst (λ q. Holds m (S (value_at vs i) q rest.0 rest.1)) next rest.2)

pub list_stored : (m : List ℕ) (g : Given) (t : Ty) (vs : Vals) (p k h : ℕ) → place_of g k < 2 ^ 32 → count_of vs < 2 ^ 32 → Holds m (stored g (list t) (elements vs) p k h)
    → StandsAt m p 4 (place_of g k) × StandsAt m (p + 4) 4 (count_of vs)
    × ((i : ℕ) → i < count_of vs → (a : ℕ) × (b : ℕ) × Holds m (stored g t (value_at vs i) (place_of g k + i * size_of t) a b))
list_stored m g t vs p k h x y held =
    let row = store_each (stored g t) (size_of t) vs (place_of g k) (k + 1) h in
    let front = pointer_stands m p (place_of g k) (count_of vs) x y (holds_front m (pointer_bytes p (place_of g k) (count_of vs)) row held) in
    let back = holds_back m (pointer_bytes p (place_of g k) (count_of vs)) row held in
    (front.0, front.1, λ i lt. each_held m (stored g t) (size_of t) vs (place_of g k) (k + 1) h back i lt)

pub fixed_stored : (m : List ℕ) (g : Given) (t : Ty) (n : ℕ) (vs : Vals) (p k h : ℕ) → Holds m (stored g (fixed_list t n) (parts vs) p k h)
    → (i : ℕ) → i < count_of vs → (a : ℕ) × (b : ℕ) × Holds m (stored g t (value_at vs i) (p + i * size_of t) a b)
fixed_stored m g t n vs p k h held i lt = each_held m (stored g t) (size_of t) vs p k h held i lt

fields_held : (m : List ℕ) (g : Given) (fs : Fields) (vs : Vals) (p end k h : ℕ) → Holds m (stored_fields g fs vs p end k h) → count_of vs ≡ field_count fs → (i : ℕ) → i < field_count fs
    → (a : ℕ) × (b : ℕ) × Holds m (stored g (field_type fs i) (value_at vs i) (p + field_offset_from fs end i) a b)
fields_held m g no_fields vs p end k h held n i lt = absurd (omega (arith, lt))
fields_held m g (field l t fs) no_vals p end k h held n i lt = absurd (omega (arith, n))
fields_held m g (field l t fs) (val v vs) p end k h held n zero lt =
    (k, h, holds_front m (stored g t v (p + align_to (align_of t) end) k h) (stored_fields g fs vs p (align_to (align_of t) end + size_of t) (k + part_count v) (h + handle_count v)) held)
fields_held m g (field l t fs) (val v vs) p end k h held n (suc i) lt =
    fields_held m g fs vs p (align_to (align_of t) end + size_of t) (k + part_count v) (h + handle_count v)
    (holds_back m (stored g t v (p + align_to (align_of t) end) k h) (stored_fields g fs vs p (align_to (align_of t) end + size_of t) (k + part_count v) (h + handle_count v)) held) (omega (arith, n)) i (omega (arith, lt))

pub fields_stored : (m : List ℕ) (g : Given) (x : FieldsKind) (fs : Fields) (offset : ℕ → ℕ) (vs : Vals) (p k h : ℕ) → AreOffsets fs offset → count_of vs ≡ field_count fs
    → Holds m (stored g (fields x fs) (parts vs) p k h) → (i : ℕ) → i < field_count fs → (a : ℕ) × (b : ℕ) × Holds m (stored g (field_type fs i) (value_at vs i) (p + offset i) a b)
fields_stored m g x fs offset vs p k h o n held i lt =
    let r = fields_held m g fs vs p 0 k h held n i lt in
    (r.0, r.1, subst (λ q. Holds m (stored g (field_type fs i) (value_at vs i) (p + q) r.0 r.1)) (sym (offset_is fs offset o i lt)) r.2)

-- ---- cases and handles

payload_held : (m : List ℕ) (g : Given) (cs : Cases) (i : ℕ) (v : Val) (q k h : ℕ) (t : Ty) → IsCase cs i (Some t) → Holds m (stored_payload g cs i v q k h) → Holds m (stored g t v q k h)
payload_held m g no_cases i v q k h t c held = absurd c
payload_held m g (plain l cs) zero v q k h t c held = absurd (some_none c)
  where
    some_none : Some t ≡ None → ⊥
    some_none e = cc
payload_held m g (plain l cs) (suc i) v q k h t c held = payload_held m g cs i v q k h t c held
payload_held m g (carrying l u cs) zero v q k h t c held = subst (λ x. Holds m (stored g x v q k h)) (sym (some_is c)) held
  where
    some_is : Some t ≡ Some u → t ≡ u
    some_is e = cc
payload_held m g (carrying l u cs) (suc i) v q k h t c held = payload_held m g cs i v q k h t c held

number_held : LeastSizes → (m : List ℕ) (cs : Cases) (p i b : ℕ) → case_count cs ≤ 2 ^ 32 → IsLeastBytes (λ x. case_count cs ≤ 256 ^ x) b → i < case_count cs
    → Holds m (placed p (bytes_of (discriminant_size (case_count cs)) i)) → StandsAt m p b i
number_held least m cs p i b few is lt held =
    let enough : case_count cs ≤ 256 ^ b = is.enough in
    held_stands b m p i (omega (arith, lt, enough)) (subst (λ x. Holds m (placed p (bytes_of x i))) (size_is least cs b few is) held)

pub bare_stored : LeastSizes → (m : List ℕ) (g : Given) (x : CasesKind) (cs : Cases) (i b p k h : ℕ) → case_count cs ≤ 2 ^ 32 → IsLeastBytes (λ x. case_count cs ≤ 256 ^ x) b → i < case_count cs
    → Holds m (stored g (cases x cs) (bare i) p k h) → StandsAt m p b i
bare_stored least m g x cs i b p k h few is lt held = number_held least m cs p i b few is lt held

pub bearing_stored : LeastSizes → (m : List ℕ) (g : Given) (x : CasesKind) (cs : Cases) (i b a offset p k h : ℕ) (v : Val) (t : Ty) → case_count cs ≤ 2 ^ 32
    → IsLeastBytes (λ x. case_count cs ≤ 256 ^ x) b → IsGreatestAlignment cs a → IsLeastMultiple a b offset → i < case_count cs → IsCase cs i (Some t)
    → Holds m (stored g (cases x cs) (bearing i v) p k h) → StandsAt m p b i × Holds m (stored g t v (p + offset) k h)
bearing_stored least m g x cs i b a offset p k h v t few is greatest multiple lt c held =
    let number = placed p (bytes_of (discriminant_size (case_count cs)) i) in
    let rest = stored_payload g cs i v (p + payload_offset cs) k h in
    let there = payload_held m g cs i v (p + payload_offset cs) k h t c (holds_back m number rest held) in (
      number_held least m cs p i b few is lt (holds_front m number rest held),
      subst (λ o. Holds m (stored g t v (p + o) k h)) (offset_here least cs b a offset few is greatest multiple) there,
    )

pub own_stored : (m : List ℕ) (g : Given) (r : ResourceId) (e : HandleValue) (p k h : ℕ) → number_of g h < 2 ^ 32 → Holds m (stored g (own r) (handle e) p k h) → StandsAt m p 4 (number_of g h)
own_stored m g r e p k h small held = held_stands 4 m p (number_of g h) small held

pub borrow_stored : (m : List ℕ) (g : Given) (r : ResourceId) (e : HandleValue) (p k h : ℕ) → number_of g h < 2 ^ 32 → Holds m (stored g (borrow r) (handle e) p k h) → StandsAt m p 4 (number_of g h)
borrow_stored m g r e p k h small held = held_stands 4 m p (number_of g h) small held
