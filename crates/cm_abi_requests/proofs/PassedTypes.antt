-- What is denoted has its type, and its parts are texts and lists that can be asked for.
use Rattle.std.proofs.Common.{◌≡◌, ℕ, zero, suc, ◌+◌, ◌*◌, ◌^◌, ◌<◌, Bool, true, false, List, [], ◌∷◌, ◌++◌, length, arith, ap, subst, sym, inl, inr}
use Rattle.std.specs.Prelude.{if◌then◌else◌, slice_index}
use Rattle.std.specs.List.{AllByRecursion}
use Rattle.std.proofs.Math.Nat.{mod-lt}
use Rattle.std.proofs.lemmas.Bool.Decides.{nat_tests}
use Rattle.std.proofs.lemmas.Int.{ints}
use Rattle.cm_types.specs.declared.core_value.CoreValue.{CoreValue}
use Rattle.cm_types.specs.Types.{Ty, Fields, Cases, Width, bits_8, bits_16, bits_32, bits_64, width_bytes, bool, signed, unsigned, char, string, list, fixed_list, fields, cases, flags, own, borrow, no_fields, field, no_cases, plain, carrying}
use Rattle.cm_types.specs.Values.{HandleValue, Val, Vals, no_vals, val, truth, signed_number, number, scalar, text, elements, parts, bare, bearing, flag_set, handle, count_of, AllVals, FitsSignedWidth, FitsWidth, HasType, HaveTypes, IsCarriedCase, IsScalarValue}
use Rattle.cm_layout.specs.Alignment.{align_to}
use Rattle.cm_layout.specs.Sizes.{align_of, payload_offset, size_of}
use Rattle.cm_abi_model.specs.declared.encoding.StringEncoding.{StringEncoding}
use Rattle.cm_abi_model.specs.declared.encoding.StringEncoding.TheVariants as encoding
use Rattle.cm_abi_model.specs.Denotes.{Denotes}
use Rattle.cm_abi_model.specs.FlatShows.{FlatShowFields, FlatShows, FlatShowsPayload, width_of}
use Rattle.cm_abi_model.specs.Numbers.{as_signed, number_at, slot_at, wrapped_at}
use Rattle.cm_abi_model.specs.Parts.{Part, text_part, element_part, parts_each, parts_in, parts_in_fields, parts_in_payload}
use Rattle.cm_abi_model.specs.Requests.{HasScalars, IsStored, call_parts, read_charset, first_tag, is_spilled, tags_behind, tuple_of}
use Rattle.cm_abi_model.specs.Answering.{AreCounted, HaveScalars}
use Rattle.cm_abi_model.specs.Shows.{ShowEach, ShowFields, Shows, ShowsPayload}
use Rattle.cm_abi_model.specs.Texts.{Charset, Has, charset_of, latin1, utf16, utf8}
use Rattle.cm_abi_model.specs.Views.{View, Way}
use Rattle.cm_types.proofs.ValuesLaws.{are_scalars}

-- ---- numbers

signed_in : (b : Width) (m : ℕ) → m < 2 ^ (8 * width_bytes b) → FitsSignedWidth b (as_signed (width_bytes b) m)
signed_in bits_8 m lt = grind (arith, ints, nat_tests)
signed_in bits_16 m lt = grind (arith, ints, nat_tests)
signed_in bits_32 m lt = grind (arith, ints, nat_tests)
signed_in bits_64 m lt = grind (arith, ints, nat_tests)

number_below : (n : ℕ) (memory : List ℕ) (at : ℕ) → ((i : ℕ) → slice_index memory i < 256) → number_at n memory at < 256 ^ n
unfolding number_at
number_below zero memory at bytes = omega arith
number_below (suc n) memory at bytes =
    let byte = bytes at in
    let rest = number_below n memory (at + 1) bytes in
    let power : 256 ^ suc n ≡ 256 * 256 ^ n = omega arith in
    rw power (omega (arith, byte, rest))

width_below : (b : Width) (memory : List ℕ) (at : ℕ) → ((i : ℕ) → slice_index memory i < 256) → number_at (width_bytes b) memory at < 2 ^ (8 * width_bytes b)
width_below bits_8 memory at bytes = let h = number_below 1 memory at bytes in omega (arith, h)
width_below bits_16 memory at bytes = let h = number_below 2 memory at bytes in omega (arith, h)
width_below bits_32 memory at bytes = let h = number_below 4 memory at bytes in omega (arith, h)
width_below bits_64 memory at bytes = let h = number_below 8 memory at bytes in omega (arith, h)

wrapped_below : (b : Width) (slots : List CoreValue) (k : ℕ) → wrapped_at (width_bytes b) slots k < 2 ^ (8 * width_bytes b)
wrapped_below bits_8 slots k = mod-lt (slot_at slots k) (omega arith)
wrapped_below bits_16 slots k = mod-lt (slot_at slots k) (omega arith)
wrapped_below bits_32 slots k = mod-lt (slot_at slots k) (omega arith)
wrapped_below bits_64 slots k = mod-lt (slot_at slots k) (omega arith)

power_some : (n : ℕ) → 0 < 2 ^ n
power_some zero = omega arith
power_some (suc n) = let rest = power_some n in omega (arith, rest)

-- ---- scalars

scalar_from : (s : Charset) (c : ℕ) → Has s c → IsScalarValue c
scalar_from utf8 c h = grind (arith, nat_tests)
scalar_from utf16 c h = grind (arith, nat_tests)
scalar_from latin1 c h = (omega (arith, h), inl (omega (arith, h)))

scalars_from : (s : Charset) (cs : List ℕ) → AllByRecursion (Has s) cs → AllByRecursion IsScalarValue cs
scalars_from s [] all = tt
scalars_from s (c ∷ cs) all = (scalar_from s c all.0, scalars_from s cs all.1)

-- ---- parts

-- the scalars of each string are scalars, and the elements of each list are counted in 32 bits
abbrev AreSound : List Part → Type 0
AreSound [] = Unit {0}
AreSound (text_part cs ∷ ps) = AllByRecursion IsScalarValue cs × AreSound ps
AreSound (element_part count size align ∷ ps) = (count < 2 ^ 32) × AreSound ps

sound_both : (ps qs : List Part) → AreSound ps → AreSound qs → AreSound (ps ++ qs)
sound_both [] qs h k = k
sound_both (text_part cs ∷ ps) qs h k = (h.0, sound_both ps qs h.1 k)
sound_both (element_part count size align ∷ ps) qs h k = (h.0, sound_both ps qs h.1 k)

-- a value has its type, and its parts are sound
abbrev IsGood : Ty → Val → Type 0
IsGood t v = HasType t v × AreSound (parts_in t v)

each_good : (S : ℕ → Val → Type 0) (t : Ty) (size at : ℕ) (vs : Vals) → ((p : ℕ) (v : Val) → S p v → IsGood t v) → ShowEach S size at vs
    → AllVals (HasType t) vs × AreSound (parts_each (parts_in t) vs)
each_good S t size at no_vals one h = (tt, tt)
each_good S t size at (val v vs) one h =
    let first = one at v h.0 in
    let rest = each_good S t size (at + size) vs one h.1 in
    ((first.0, rest.0), sound_both (parts_in t v) (parts_each (parts_in t) vs) first.1 rest.1)

four_below : (memory : List ℕ) (at n : ℕ) → ((i : ℕ) → slice_index memory i < 256) → n ≡ number_at 4 memory at → n < 2 ^ 32
four_below memory at n bytes is = let h = number_below 4 memory at bytes in omega (arith, h, is)

module _ (w : View) (bytes : (i : ℕ) → slice_index w.memory i < 256) where
  mutual
    shown_good : (t : Ty) (p : ℕ) (v : Val) → Shows w t p v → IsGood t v
    shown_good bool p (truth b) h = (tt, tt)
    shown_good (signed k) p (signed_number z) h = (subst (FitsSignedWidth k) (sym h) (signed_in k (number_at (width_bytes k) w.memory p) (width_below k w.memory p bytes)), tt)
    shown_good (unsigned k) p (number n) h = (subst (FitsWidth k) (sym h) (width_below k w.memory p bytes), tt)
    shown_good char p (scalar c) h = (h.1, tt)
    shown_good string p (text cs) h =
        let all = scalars_from (charset_of w.encoding (number_at 4 w.memory (p + 4))) cs h.text.all in
        (all, (all, tt))
    shown_good (list t) p (elements vs) h =
        let each = each_good (Shows w t) t (size_of t) (number_at 4 w.memory p) vs (shown_good t) h.each in
        (each.0, (four_below w.memory (p + 4) (count_of vs) bytes h.count, each.1))
    shown_good (fixed_list t n) p (parts vs) h =
        let each = each_good (Shows w t) t (size_of t) p vs (shown_good t) h.1 in
        ((h.0, each.0), each.1)
    shown_good (fields k fs) p (parts vs) h = shown_fields fs p 0 vs h
    shown_good (cases k cs) p (bare i) h = (h.1, tt)
    shown_good (cases k cs) p (bearing i v) h = shown_payload cs (p + payload_offset cs) i v h.1
    shown_good (flags ls) p (flag_set n) h = (subst (λ m. m < 2 ^ length ls) (sym h) (mod-lt _ (power_some (length ls))), tt)
    shown_good (own r) p (handle e) h = (ap (λ (x : HandleValue). x.resource) h.handle.value, tt)
    shown_good (borrow r) p (handle e) h = (ap (λ (x : HandleValue). x.resource) h.value, tt)
    shown_good _ p _ h = absurd h

    shown_fields : (fs : Fields) (p end : ℕ) (vs : Vals) → ShowFields w fs p end vs → HaveTypes fs vs × AreSound (parts_in_fields fs vs)
    shown_fields no_fields p end no_vals h = (tt, tt)
    shown_fields no_fields p end (val v vs) h = absurd h
    shown_fields (field l t fs) p end no_vals h = absurd h
    shown_fields (field l t fs) p end (val v vs) h =
        let first = shown_good t (p + align_to (align_of t) end) v h.0 in
        let rest = shown_fields fs p (align_to (align_of t) end + size_of t) vs h.1 in
        ((first.0, rest.0), sound_both (parts_in t v) (parts_in_fields fs vs) first.1 rest.1)

    shown_payload : (cs : Cases) (p i : ℕ) (v : Val) → ShowsPayload w cs p i v → IsCarriedCase cs i v × AreSound (parts_in_payload cs i v)
    shown_payload no_cases p i v h = absurd h
    shown_payload (plain l cs) p zero v h = absurd h
    shown_payload (plain l cs) p (suc i) v h = shown_payload cs p i v h
    shown_payload (carrying l t cs) p zero v h = shown_good t p v h
    shown_payload (carrying l t cs) p (suc i) v h = shown_payload cs p i v h

  module _ (s : List CoreValue) where
    mutual
      flat_good : (t : Ty) (k : ℕ) (v : Val) → FlatShows w s t k v → IsGood t v
      flat_good bool k (truth b) h = (tt, tt)
      flat_good (signed b) k (signed_number z) h = (subst (FitsSignedWidth b) (sym h) (signed_in b (wrapped_at (width_bytes b) s k) (wrapped_below b s k)), tt)
      flat_good (unsigned b) k (number n) h = (subst (FitsWidth b) (sym h) (wrapped_below b s k), tt)
      flat_good char k (scalar c) h = (h.1, tt)
      flat_good string k (text cs) h =
          let all = scalars_from (charset_of w.encoding (wrapped_at 4 s (k + 1))) cs h.text.all in
          (all, (all, tt))
      flat_good (list t) k (elements vs) h =
          let each = each_good (Shows w t) t (size_of t) (wrapped_at 4 s k) vs (shown_good t) h.each in
          (each.0, (subst (λ n. n < 2 ^ 32) (sym h.count) (wrapped_below bits_32 s (k + 1)), each.1))
      flat_good (fixed_list t n) k (parts vs) h =
          let each = each_good (FlatShows w s t) t (width_of t) k vs (flat_good t) h.1 in
          ((h.0, each.0), each.1)
      flat_good (fields f fs) k (parts vs) h = flat_fields fs k vs h
      flat_good (cases c cs) k (bare i) h = (h.1, tt)
      flat_good (cases c cs) k (bearing i v) h = flat_payload cs (k + 1) i v h.1
      flat_good (flags ls) k (flag_set n) h = (subst (λ m. m < 2 ^ length ls) (sym h) (mod-lt _ (power_some (length ls))), tt)
      flat_good (own r) k (handle e) h = (ap (λ (x : HandleValue). x.resource) h.handle.value, tt)
      flat_good (borrow r) k (handle e) h = (ap (λ (x : HandleValue). x.resource) h.value, tt)
      flat_good _ k _ h = absurd h

      flat_fields : (fs : Fields) (k : ℕ) (vs : Vals) → FlatShowFields w s fs k vs → HaveTypes fs vs × AreSound (parts_in_fields fs vs)
      flat_fields no_fields k no_vals h = (tt, tt)
      flat_fields no_fields k (val v vs) h = absurd h
      flat_fields (field l t fs) k no_vals h = absurd h
      flat_fields (field l t fs) k (val v vs) h =
          let first = flat_good t k v h.0 in
          let rest = flat_fields fs (k + width_of t) vs h.1 in
          ((first.0, rest.0), sound_both (parts_in t v) (parts_in_fields fs vs) first.1 rest.1)

      flat_payload : (cs : Cases) (k i : ℕ) (v : Val) → FlatShowsPayload w s cs k i v → IsCarriedCase cs i v × AreSound (parts_in_payload cs i v)
      flat_payload no_cases k i v h = absurd h
      flat_payload (plain l cs) k zero v h = absurd h
      flat_payload (plain l cs) k (suc i) v h = flat_payload cs k i v h
      flat_payload (carrying l t cs) k zero v h = flat_good t k v h
      flat_payload (carrying l t cs) k (suc i) v h = flat_payload cs k i v h

denoted_good : (w : View) (way : Way) (types : Fields) (slots : List CoreValue) (v : Val) → ((i : ℕ) → slice_index w.memory i < 256) → Denotes w way types slots v → IsGood (tuple_of types) v
denoted_good w way types slots v bytes h =
    elim h [
      | inl flat ↦ flat_good w bytes slots (tuple_of types) 0 v flat.shown
      | inr spilled ↦ shown_good w bytes (tuple_of types) (wrapped_at 4 slots 0) v spilled.shown
    ]

-- what a lowering wants to know of parts
counted_from : (ps : List Part) → AreSound ps → AreCounted ps
counted_from [] h = tt
counted_from (text_part cs ∷ ps) h = (omega arith, counted_from ps h.1)
counted_from (element_part count size align ∷ ps) h = (h.0, counted_from ps h.1)

counted_call : (size align : ℕ) (ps : List Part) (b : Bool) → AreSound ps → AreCounted (if b then element_part 1 size align ∷ ps else ps)
counted_call size align ps true h = (omega arith, counted_from ps h)
counted_call size align ps false h = counted_from ps h

text_back : (e : StringEncoding) (tag : Bool) (cs : List ℕ) → IsStored e → AllByRecursion IsScalarValue cs → HasScalars (read_charset e tag) (text_part cs)
text_back encoding.Utf8 tag cs stored all = are_scalars cs all
text_back encoding.Utf16 tag cs stored all = are_scalars cs all
text_back encoding.Latin1OrUtf16 tag cs stored all = absurd stored

-- the scalars of each string are scalars
abbrev HaveTexts : List Part → Type 0
HaveTexts [] = Unit {0}
HaveTexts (text_part cs ∷ ps) = AllByRecursion IsScalarValue cs × HaveTexts ps
HaveTexts (element_part count size align ∷ ps) = HaveTexts ps

texts_both : (ps qs : List Part) → HaveTexts ps → HaveTexts qs → HaveTexts (ps ++ qs)
texts_both [] qs h k = k
texts_both (text_part cs ∷ ps) qs h k = (h.0, texts_both ps qs h.1 k)
texts_both (element_part count size align ∷ ps) qs h k = texts_both ps qs h k

texts_have : (e : StringEncoding) (tags : List Bool) (ps : List Part) → IsStored e → HaveTexts ps → HaveScalars e tags ps
texts_have e tags [] stored h = tt
texts_have e tags (text_part cs ∷ ps) stored h = (text_back e (first_tag tags) cs stored h.0, texts_have e (tags_behind (text_part cs) tags) ps stored h.1)
texts_have e tags (element_part count size align ∷ ps) stored h = (tt, texts_have e tags ps stored h)

scalars_have : (e : StringEncoding) (tags : List Bool) (ps : List Part) → IsStored e → AreSound ps → HaveScalars e tags ps
scalars_have e tags [] stored h = tt
scalars_have e tags (text_part cs ∷ ps) stored h = (text_back e (first_tag tags) cs stored h.0, scalars_have e (tags_behind (text_part cs) tags) ps stored h.1)
scalars_have e tags (element_part count size align ∷ ps) stored h = (tt, scalars_have e tags ps stored h.1)

scalars_call : (e : StringEncoding) (tags : List Bool) (size align : ℕ) (ps : List Part) (b : Bool) → IsStored e → AreSound ps → HaveScalars e tags (if b then element_part 1 size align ∷ ps else ps)
scalars_call e tags size align ps true stored h = (tt, scalars_have e tags ps stored h)
scalars_call e tags size align ps false stored h = scalars_have e tags ps stored h

-- what has its type has scalars in its strings
sound_each : (t : Ty) → ((v : Val) → HasType t v → HaveTexts (parts_in t v)) → (vs : Vals) → AllVals (HasType t) vs → HaveTexts (parts_each (parts_in t) vs)
sound_each t one no_vals h = tt
sound_each t one (val v vs) h = texts_both (parts_in t v) (parts_each (parts_in t) vs) (one v h.0) (sound_each t one vs h.1)

mutual
  typed_texts : (t : Ty) (v : Val) → HasType t v → HaveTexts (parts_in t v)
  typed_texts bool (truth b) h = tt
  typed_texts (signed k) (signed_number z) h = tt
  typed_texts (unsigned k) (number n) h = tt
  typed_texts char (scalar c) h = tt
  typed_texts string (text cs) h = (h, tt)
  typed_texts (list t) (elements vs) h = sound_each t (typed_texts t) vs h
  typed_texts (fixed_list t n) (parts vs) h = sound_each t (typed_texts t) vs h.1
  typed_texts (fields k fs) (parts vs) h = typed_fields fs vs h
  typed_texts (cases k cs) (bare i) h = tt
  typed_texts (cases k cs) (bearing i v) h = typed_payload cs i v h
  typed_texts (flags ls) (flag_set n) h = tt
  typed_texts (own r) (handle e) h = tt
  typed_texts (borrow r) (handle e) h = tt
  typed_texts _ _ h = absurd h

  typed_fields : (fs : Fields) (vs : Vals) → HaveTypes fs vs → HaveTexts (parts_in_fields fs vs)
  typed_fields no_fields no_vals h = tt
  typed_fields no_fields (val v vs) h = absurd h
  typed_fields (field l t fs) no_vals h = absurd h
  typed_fields (field l t fs) (val v vs) h = texts_both (parts_in t v) (parts_in_fields fs vs) (typed_texts t v h.0) (typed_fields fs vs h.1)

  typed_payload : (cs : Cases) (i : ℕ) (v : Val) → IsCarriedCase cs i v → HaveTexts (parts_in_payload cs i v)
  typed_payload no_cases i v h = absurd h
  typed_payload (plain l cs) zero v h = absurd h
  typed_payload (plain l cs) (suc i) v h = typed_payload cs i v h
  typed_payload (carrying l t cs) zero v h = typed_texts t v h
  typed_payload (carrying l t cs) (suc i) v h = typed_payload cs i v h

pub typed_spelled : (t : Ty) (v : Val) (source : StringEncoding) (tags : List Bool) → IsStored source → HasType t v → HaveScalars source tags (parts_in t v)
typed_spelled t v source tags stored h = texts_have source tags (parts_in t v) stored (typed_texts t v h)

pub denoted_typed : (w : View) (way : Way) (types : Fields) (slots : List CoreValue) (v : Val) → ((i : ℕ) → slice_index w.memory i < 2 ^ 8) → Denotes w way types slots v → HasType (tuple_of types) v
denoted_typed w way types slots v bytes h = (denoted_good w way types slots v bytes h).0

pub denoted_counted : (w : View) (way : Way) (types : Fields) (slots : List CoreValue) (v : Val) (to : Way) → ((i : ℕ) → slice_index w.memory i < 2 ^ 8) → Denotes w way types slots v → AreCounted (call_parts to types v)
denoted_counted w way types slots v to bytes h =
    counted_call (size_of (tuple_of types)) (align_of (tuple_of types)) (parts_in (tuple_of types) v) (is_spilled to types) (denoted_good w way types slots v bytes h).1

pub denoted_scalars : (w : View) (way : Way) (types : Fields) (slots : List CoreValue) (v : Val) (tags : List Bool) (to : Way) → ((i : ℕ) → slice_index w.memory i < 2 ^ 8) → Denotes w way types slots v → IsStored w.encoding
    → HaveScalars w.encoding tags (call_parts to types v)
denoted_scalars w way types slots v tags to bytes h stored =
    scalars_call w.encoding tags (size_of (tuple_of types)) (align_of (tuple_of types)) (parts_in (tuple_of types) v) (is_spilled to types) stored (denoted_good w way types slots v bytes h).1
