-- The content of the parts of a value is that which is met where it is read, and their strings are
-- spelled there, by the tags that are met.
use Rattle.std.proofs.Common.{◌≡◌, ℕ, zero, suc, ◌+◌, ◌*◌, ◌≤◌, Bool, List, [], ◌∷◌, ◌++◌, length, drop, refl, sym, ap, subst, ◌∙◌, arith, length-drop}
use Rattle.std.specs.Prelude.{not, nat_lt}
use Rattle.std.specs.List.{AllByRecursion}
use Rattle.std.proofs.lemmas.List.{append_assoc, append-nil, length-take-le}
use Rattle.cm_types.specs.Types.{Ty, Fields, Cases, bool, signed, unsigned, char, string, list, fixed_list, fields, cases, flags, own, borrow, no_fields, field, no_cases, plain, carrying}
use Rattle.cm_types.specs.Values.{Val, Vals, no_vals, val, truth, signed_number, number, scalar, text, elements, parts, bare, bearing, flag_set, handle, count_of}
use Rattle.cm_layout.specs.Alignment.{align_to}
use Rattle.cm_layout.specs.Sizes.{align_of, payload_offset, size_of}
use Rattle.cm_abi_model.specs.declared.encoding.StringEncoding.{StringEncoding}
use Rattle.cm_abi_model.specs.declared.encoding.StringEncoding.TheVariants as encoding
use Rattle.cm_abi_model.specs.Numbers.{number_at}
use Rattle.cm_abi_model.specs.Parts.{Part, text_part, element_part, parts_each, parts_in, parts_in_fields, parts_in_payload}
use Rattle.cm_abi_model.specs.Requests.{HasScalars, IsStored, read_charset, first_tag, tagged_charset, tags_behind, text_bytes}
use Rattle.cm_abi_model.specs.Shows.{ShowEach, ShowFields, Shows, ShowsPayload}
use Rattle.cm_abi_model.specs.Taken.{Met, content, content_of, tags_of, met_at, met_each, met_in_fields, met_in_payload, met_text}
use Rattle.cm_abi_model.specs.Texts.{Has, ShowsText, UTF16_TAG, charset_of, tag_of, text_size}
use Rattle.cm_abi_model.specs.Views.{View}
use Rattle.cm_abi_model.specs.Answering.{HaveScalars}
use Rattle.cm_abi_requests.specs.Asking.{content_of_parts, part_content}
use Rattle.cm_abi_model.proofs.TextsLaws.{by_tag}
use Rattle.cm_abi_model.proofs.TakenLemmas.{content_both, tags_both}

-- ---- tags say nothing of what is stored

untagged : (e : StringEncoding) (a b : Bool) → IsStored e → read_charset e a ≡ read_charset e b
untagged encoding.Utf8 a b stored = refl
untagged encoding.Utf16 a b stored = refl
untagged encoding.Latin1OrUtf16 a b stored = absurd stored

pub same_content : (e : StringEncoding) (ts us : List Bool) (ps : List Part) → IsStored e → content_of_parts e ts ps ≡ content_of_parts e us ps
same_content e ts us [] stored = refl
same_content e ts us (p ∷ ps) stored =
    ap (λ s. part_content s p + content_of_parts e (tags_behind p ts) ps) (untagged e (first_tag ts) (first_tag us) stored)
    ∙ ap (λ n. part_content (read_charset e (first_tag us)) p + n) (same_content e (tags_behind p ts) (tags_behind p us) ps stored)

same_scalars : (e : StringEncoding) (ts us : List Bool) (ps : List Part) → IsStored e → HaveScalars e ts ps → HaveScalars e us ps
same_scalars e ts us [] stored h = tt
same_scalars e ts us (p ∷ ps) stored h =
    (subst (λ s. HasScalars s p) (untagged e (first_tag ts) (first_tag us) stored) h.0, same_scalars e (tags_behind p ts) (tags_behind p us) ps stored h.1)

-- ---- parts

-- parts have so much content where their strings have these tags, and are spelled so, whatever
-- stands behind them
abbrev pub Tagged : StringEncoding → List Bool → List Part → ℕ → Type 0
Tagged e tags ps n = (rest : List Bool) (qs : List Part) → (content_of_parts e (tags ++ rest) (ps ++ qs) ≡ n + content_of_parts e rest qs) × (HaveScalars e rest qs → HaveScalars e (tags ++ rest) (ps ++ qs))

-- the same by what is met
abbrev pub Counts : StringEncoding → List Part → List Met → Type 0
Counts e ps ms = Tagged e (tags_of ms) ps (content_of ms)

pub none : (e : StringEncoding) → Counts e [] []
none e = λ rest qs. (omega arith, λ h. h)

tagged_both : (e : StringEncoding) (ts us : List Bool) (ps qs : List Part) (n m : ℕ) → Tagged e ts ps n → Tagged e us qs m → Tagged e (ts ++ us) (ps ++ qs) (n + m)
tagged_both e ts us ps qs n m h k = λ rest rs.
    let first = h (us ++ rest) (qs ++ rs) in
    let later = k rest rs in
    let sum : n + content_of_parts e (us ++ rest) (qs ++ rs) ≡ (n + m) + content_of_parts e rest rs = omega (arith, later.0) in
    rw (append_assoc ts us rest, append_assoc ps qs rs) (first.0 ∙ sum, λ x. first.1 (later.1 x))

pub both : (e : StringEncoding) (ps qs : List Part) (ms ns : List Met) → Counts e ps ms → Counts e qs ns → Counts e (ps ++ qs) (ms ++ ns)
both e ps qs ms ns h k =
    let one = tagged_both e (tags_of ms) (tags_of ns) ps qs (content_of ms) (content_of ns) h k in
    subst (λ ts. Tagged e ts (ps ++ qs) (content_of (ms ++ ns))) (sym (tags_both ms ns))
    (subst (λ n. Tagged e (tags_of ms ++ tags_of ns) (ps ++ qs) n) (sym (content_both ms ns)) one)

-- ---- strings

text_tagged : (e : StringEncoding) (n : ℕ) (cs : List ℕ) → length (text_bytes (charset_of e n) cs) ≡ text_size e n → AllByRecursion (Has (charset_of e n)) cs
    → Tagged e (tag_of e n ++ []) (text_part cs ∷ []) (text_size e n + 0)
text_tagged encoding.Utf8 n cs size all = λ rest qs.
    let same = same_content encoding.Utf8 (tags_behind (text_part cs) rest) rest qs tt in
    (omega (arith, size, same), λ h. (all, same_scalars encoding.Utf8 rest (tags_behind (text_part cs) rest) qs tt h))
text_tagged encoding.Utf16 n cs size all = λ rest qs.
    let same = same_content encoding.Utf16 (tags_behind (text_part cs) rest) rest qs tt in
    (omega (arith, size, same), λ h. (all, same_scalars encoding.Utf16 rest (tags_behind (text_part cs) rest) qs tt h))
text_tagged encoding.Latin1OrUtf16 n cs size all = λ rest qs.
    let told = by_tag (nat_lt n UTF16_TAG) in
    let bytes : length (text_bytes (tagged_charset (not (nat_lt n UTF16_TAG))) cs) ≡ text_size encoding.Latin1OrUtf16 n = ap (λ s. length (text_bytes s cs)) told ∙ size in
    (omega (arith, bytes), λ h. (subst (λ s. AllByRecursion (Has s) cs) (sym told) all, h))

pub text_counts : (e : StringEncoding) (memory : List ℕ) (at n : ℕ) (cs : List ℕ) → ShowsText e memory at n cs → Counts e (text_part cs ∷ []) (met_text e n ∷ [])
text_counts e memory at n cs shown =
    let room : text_size e n ≤ length (drop at memory) = omega (arith, shown.inside, length-drop at memory) in
    text_tagged e n cs (ap length shown.text.is ∙ length-take-le (text_size e n) (drop at memory) room) shown.text.all

-- ---- lists

pub list_counts : (e : StringEncoding) (count size align : ℕ) (ps : List Part) (ms : List Met) → Counts e ps ms → Counts e (element_part count size align ∷ ps) (content (count * size) ∷ ms)
list_counts e count size align ps ms h = λ rest qs. let later = h rest qs in (omega (arith, later.0), λ x. (tt, later.1 x))

pub each_counts : (e : StringEncoding) (S : ℕ → Val → Type 0) (P : Val → List Part) (M : ℕ → Val → List Met) (size at : ℕ) (vs : Vals)
    → ((p : ℕ) (v : Val) → S p v → Counts e (P v) (M p v))
    → ShowEach S size at vs → Counts e (parts_each P vs) (met_each M size at vs)
each_counts e S P M size at no_vals one h = none e
each_counts e S P M size at (val v vs) one h =
    both e (P v) (parts_each P vs) (M at v) (met_each M size (at + size) vs) (one at v h.0) (each_counts e S P M size (at + size) vs one h.1)

mutual
  pub counts : (w : View) (t : Ty) (p : ℕ) (v : Val) → Shows w t p v → Counts w.encoding (parts_in t v) (met_at w t p v)
  counts w bool p (truth b) h = none w.encoding
  counts w (signed k) p (signed_number z) h = none w.encoding
  counts w (unsigned k) p (number n) h = none w.encoding
  counts w char p (scalar c) h = none w.encoding
  counts w string p (text cs) h = text_counts w.encoding w.memory (number_at 4 w.memory p) (number_at 4 w.memory (p + 4)) cs h
  counts w (list t) p (elements vs) h =
      list_counts w.encoding (count_of vs) (size_of t) (align_of t) (parts_each (parts_in t) vs) (met_each (met_at w t) (size_of t) (number_at 4 w.memory p) vs)
      (each_counts w.encoding (Shows w t) (parts_in t) (met_at w t) (size_of t) (number_at 4 w.memory p) vs (counts w t) h.each)
  counts w (fixed_list t n) p (parts vs) h = each_counts w.encoding (Shows w t) (parts_in t) (met_at w t) (size_of t) p vs (counts w t) h.1
  counts w (fields k fs) p (parts vs) h = field_counts w fs p 0 vs h
  counts w (cases k cs) p (bare i) h = none w.encoding
  counts w (cases k cs) p (bearing i v) h = payload_counts w cs (p + payload_offset cs) i v h.1
  counts w (flags ls) p (flag_set n) h = none w.encoding
  counts w (own r) p (handle e) h = none w.encoding
  counts w (borrow r) p (handle e) h = none w.encoding
  counts w _ p _ h = absurd h

  field_counts : (w : View) (fs : Fields) (p end : ℕ) (vs : Vals) → ShowFields w fs p end vs → Counts w.encoding (parts_in_fields fs vs) (met_in_fields w fs p end vs)
  field_counts w no_fields p end no_vals h = none w.encoding
  field_counts w no_fields p end (val v vs) h = absurd h
  field_counts w (field l t fs) p end no_vals h = absurd h
  field_counts w (field l t fs) p end (val v vs) h =
      both w.encoding (parts_in t v) (parts_in_fields fs vs) (met_at w t (p + align_to (align_of t) end) v) (met_in_fields w fs p (align_to (align_of t) end + size_of t) vs)
      (counts w t (p + align_to (align_of t) end) v h.0) (field_counts w fs p (align_to (align_of t) end + size_of t) vs h.1)

  payload_counts : (w : View) (cs : Cases) (p i : ℕ) (v : Val) → ShowsPayload w cs p i v → Counts w.encoding (parts_in_payload cs i v) (met_in_payload w cs p i v)
  payload_counts w no_cases p i v h = absurd h
  payload_counts w (plain l cs) p zero v h = absurd h
  payload_counts w (plain l cs) p (suc i) v h = payload_counts w cs p i v h
  payload_counts w (carrying l t cs) p zero v h = counts w t p v h
  payload_counts w (carrying l t cs) p (suc i) v h = payload_counts w cs p i v h

-- nothing stands behind the parts
pub counts_alone : (e : StringEncoding) (tags : List Bool) (ps : List Part) (n : ℕ) → Tagged e tags ps n → (content_of_parts e tags ps ≡ n) × HaveScalars e tags ps
counts_alone e tags ps n it =
    let alone = it [] [] in (
      ap (λ ts. content_of_parts e ts ps) (sym (append-nil tags)) ∙ (ap (λ qs. content_of_parts e (tags ++ []) qs) (sym (append-nil ps)) ∙ (alone.0 ∙ omega arith)),
      subst (λ qs. HaveScalars e tags qs) (append-nil ps) (subst (λ ts. HaveScalars e ts (ps ++ [])) (append-nil tags) (alone.1 tt)),
    )

pub shown_counts : (w : View) (t : Ty) (p : ℕ) (v : Val) → Shows w t p v → content_of_parts w.encoding (tags_of (met_at w t p v)) (parts_in t v) ≡ content_of (met_at w t p v)
shown_counts w t p v h = (counts_alone w.encoding (tags_of (met_at w t p v)) (parts_in t v) (content_of (met_at w t p v)) (counts w t p v h)).0
