-- Strings by their units.
use Rattle.std.proofs.Common.{◌≡◌, ℕ, zero, suc, ◌+◌, ◌-◌, ◌*◌, ◌/◌, ◌%◌, ◌^◌, ◌<◌, ◌≤◌, ◌⊎◌, inl, inr, Bool, true, false, List, [], ◌∷◌, ◌++◌, length, take, drop, slice_index, nat_lt, if◌then◌else◌, refl, sym, ap, subst, ◌∙◌, arith}
use Rattle.std.proofs.Math.Seq.{drop-cons}
use Rattle.std.proofs.lemmas.Bool.Decides.{nat_tests}
use Rattle.std.proofs.lemmas.List.Concat.{flat_map-append}
use Rattle.std.specs.Char.{IsScalar}
use Rattle.std.specs.Char.Escape.{encode_utf16}
use Rattle.std.specs.List.{AllByRecursion, flat_map}
use lib.Utf8.{low_scalar}
use Rattle.cm_types.specs.Types.{string}
use Rattle.cm_types.specs.Values.{text}
use Rattle.cm_text.specs.Text.{IsText}
use Rattle.cm_text.specs.Latin1.{HasLatin1}
use Rattle.cm_text.specs.Utf16.{bytes_of_unit, spell_utf16}
use Rattle.cm_abi_model.specs.declared.encoding.StringEncoding.{StringEncoding}
use Rattle.cm_abi_model.specs.declared.encoding.StringEncoding.TheVariants as encoding
use Rattle.cm_abi_model.specs.Numbers.{number_at}
use Rattle.cm_abi_model.specs.Shows.{Shows}
use Rattle.cm_abi_model.specs.Texts.{Has, ShowsText, UTF16_TAG, bytes_from, latin1, spell, unit_size, utf16}
use Rattle.cm_abi_model.specs.Views.{View}
use Rattle.cm_abi_model.specs.Bytes.{AreBytes, StandsAt, byte_of}
use Rattle.cm_abi_model.specs.Strings.{AreUnits, AreUnitsIn, IsString, IsStringAt, StandInRow, utf16_units, utf8_units}
use Rattle.cm_abi_model.proofs.NumberLaws.{number_stands, stands_number}
use Rattle.cm_text.proofs.PairLemmas.{latin1_spelled}
use Rattle.cm_lemmas.proofs.Lists.{taken_at, taken_length}
use Rattle.cm_text.proofs.Utf16Laws.{unit_length}

-- ---- bytes in a row

take_them : (m bs : List ℕ) (at : ℕ) → at + length bs ≤ length m → ((i : ℕ) → i < length bs → slice_index m (at + i) ≡ slice_index bs i) → take (length bs) (drop at m) ≡ bs
take_them m [] at inside h = refl
take_them m (b ∷ bs) at inside h =
    let first : slice_index m at ≡ b = ap (slice_index m) {x = at} {y = at + 0} (omega arith) ∙ h 0 (omega arith) in
    ap (take (suc (length bs))) (drop-cons m at 0 (omega (arith, inside)))
    ∙ ap (λ x. x ∷ take (length bs) (drop (suc at) m)) first
    ∙ ap (λ i. b ∷ take (length bs) (drop i m)) {x = suc at} {y = at + 1} (omega arith)
    ∙ ap (λ xs. b ∷ xs) (take_them m bs (at + 1) (omega (arith, inside)) (λ i lt. ap (slice_index m) {x = (at + 1) + i} {y = at + suc i} (omega arith) ∙ h (suc i) (omega (arith, lt))))

pub one_byte : (m : List ℕ) (at x : ℕ) → AreBytes m → slice_index m at ≡ x → StandsAt m at 1 x
one_byte m at x bytes e =
    let small : x < 256 = omega (arith, bytes at, e) in
    record { below = omega (arith, small); each = λ i lt. ap (slice_index m) {x = at + i} {y = at} (omega (arith, lt)) ∙ e ∙ is i lt small }
  where
    is : (i : ℕ) → i < 1 → x < 256 → x ≡ byte_of x i
    is zero lt small = omega (arith, small)
    is (suc i) lt small = absurd (omega (arith, lt))

byte_one : (m : List ℕ) (at x : ℕ) → StandsAt m at 1 x → slice_index m at ≡ x
byte_one m at x s = ap (slice_index m) {x = at} {y = at + 0} (omega arith) ∙ s.each 0 (omega arith) ∙ omega (arith, s.below)

bytes_row : (m xs : List ℕ) (at : ℕ) → AreBytes m → at + length xs ≤ length m → take (length xs) (drop at m) ≡ xs → StandInRow m at 1 xs
bytes_row m xs at bytes inside e =
    record {
      inside = omega (arith, inside);
      each = λ i lt. one_byte m (at + 1 * i) (slice_index xs i) bytes
          (ap (slice_index m) {x = at + 1 * i} {y = at + i} (omega arith) ∙ sym (taken_at m at (length xs) i lt) ∙ ap (λ ys. slice_index ys i) e);
    }

row_bytes : (m xs : List ℕ) (at : ℕ) → StandInRow m at 1 xs → take (length xs) (drop at m) ≡ xs
row_bytes m xs at s =
    take_them m xs at (omega (arith, s.inside))
    (λ i lt. ap (slice_index m) {x = at + i} {y = at + 1 * i} (omega arith) ∙ byte_one m (at + 1 * i) (slice_index xs i) (s.each i lt))

-- ---- units in a row

pub units_flat : (cs : List ℕ) → flat_map spell_utf16 cs ≡ flat_map bytes_of_unit (utf16_units cs)
units_flat [] = refl
units_flat (c ∷ cs) = ap (λ xs. spell_utf16 c ++ xs) (units_flat cs) ∙ sym (flat_map-append bytes_of_unit (encode_utf16 c) (utf16_units cs))

-- the bytes of units, and the units
pub unit_low : (us : List ℕ) (i : ℕ) → i < length us → slice_index (flat_map bytes_of_unit us) (2 * i) ≡ slice_index us i % 256
unit_low [] i lt = absurd (omega (arith, lt))
unit_low (u ∷ us) zero lt = refl
unit_low (u ∷ us) (suc i) lt = ap (slice_index (flat_map bytes_of_unit (u ∷ us))) {x = 2 * suc i} {y = suc (suc (2 * i))} (omega arith) ∙ unit_low us i (omega (arith, lt))

pub unit_high : (us : List ℕ) (i : ℕ) → i < length us → slice_index (flat_map bytes_of_unit us) (2 * i + 1) ≡ slice_index us i / 256
unit_high [] i lt = absurd (omega (arith, lt))
unit_high (u ∷ us) zero lt = refl
unit_high (u ∷ us) (suc i) lt = ap (slice_index (flat_map bytes_of_unit (u ∷ us))) {x = 2 * suc i + 1} {y = suc (suc (2 * i + 1))} (omega arith) ∙ unit_high us i (omega (arith, lt))

pub unit_stands : (m : List ℕ) (at u : ℕ) → AreBytes m → slice_index m at ≡ u % 256 → slice_index m (at + 1) ≡ u / 256 → StandsAt m at 2 u
unit_stands m at u bytes low high =
    let small : u / 256 < 256 = omega (arith, bytes (at + 1), high) in
    record { below = omega (arith, small); each = λ i lt. each i lt small }
  where
    each : (i : ℕ) → i < 2 → u / 256 < 256 → slice_index m (at + i) ≡ byte_of u i
    each zero lt small = ap (slice_index m) {x = at + 0} {y = at} (omega arith) ∙ low ∙ omega arith
    each (suc zero) lt small = high ∙ omega (arith, small)
    each (suc (suc i)) lt small = absurd (omega (arith, lt))

units_row : (m us : List ℕ) (at : ℕ) → AreBytes m → at + 2 * length us ≤ length m → take (2 * length us) (drop at m) ≡ flat_map bytes_of_unit us → StandInRow m at 2 us
units_row m us at bytes inside e =
    record {
      inside = inside;
      each = λ i lt. unit_stands m (at + 2 * i) (slice_index us i) bytes
          (sym (taken_at m at (2 * length us) (2 * i) (omega (arith, lt))) ∙ ap (λ ys. slice_index ys (2 * i)) e ∙ unit_low us i lt)
          (ap (slice_index m) {x = (at + 2 * i) + 1} {y = at + (2 * i + 1)} (omega arith) ∙ sym (taken_at m at (2 * length us) (2 * i + 1) (omega (arith, lt))) ∙ ap (λ ys. slice_index ys (2 * i + 1)) e ∙ unit_high us i lt);
    }

halves : (P : ℕ → Type 0) → ((i : ℕ) → P (2 * i)) → ((i : ℕ) → P (2 * i + 1)) → (j : ℕ) → P j
halves P even odd zero = even 0
halves P even odd (suc zero) = odd 0
halves P even odd (suc (suc j)) =
    halves (λ n. P (suc (suc n))) (λ i. subst P {x = 2 * suc i} {y = suc (suc (2 * i))} (omega arith) (even (suc i))) (λ i. subst P {x = 2 * suc i + 1} {y = suc (suc (2 * i + 1))} (omega arith) (odd (suc i))) j

row_units : (m us : List ℕ) (at : ℕ) → StandInRow m at 2 us → take (2 * length us) (drop at m) ≡ flat_map bytes_of_unit us
row_units m us at s =
    ap (λ n. take n (drop at m)) (sym (unit_length us))
    ∙ take_them m (flat_map bytes_of_unit us) at (omega (arith, s.inside, unit_length us)) (halves (λ j. j < length (flat_map bytes_of_unit us) → slice_index m (at + j) ≡ slice_index (flat_map bytes_of_unit us) j) even odd)
  where
    even : (i : ℕ) → 2 * i < length (flat_map bytes_of_unit us) → slice_index m (at + 2 * i) ≡ slice_index (flat_map bytes_of_unit us) (2 * i)
    even i lt =
        let inside : i < length us = omega (arith, lt, unit_length us) in
        ap (slice_index m) {x = at + 2 * i} {y = (at + 2 * i) + 0} (omega arith) ∙ (s.each i inside).each 0 (omega arith) ∙ omega arith ∙ sym (unit_low us i inside)

    odd : (i : ℕ) → 2 * i + 1 < length (flat_map bytes_of_unit us) → slice_index m (at + (2 * i + 1)) ≡ slice_index (flat_map bytes_of_unit us) (2 * i + 1)
    odd i lt =
        let inside : i < length us = omega (arith, lt, unit_length us) in
        let small : slice_index us i < 256 ^ 2 = (s.each i inside).below in
        ap (slice_index m) {x = at + (2 * i + 1)} {y = (at + 2 * i) + 1} (omega arith) ∙ (s.each i inside).each 1 (omega arith) ∙ omega (arith, small) ∙ sym (unit_high us i inside)

-- ---- a string

latin1_scalars : (cs : List ℕ) → AllByRecursion HasLatin1 cs → AllByRecursion IsScalar cs
latin1_scalars [] h = tt {0}
latin1_scalars (c ∷ cs) h = (low_scalar c (omega (arith, h.0)), latin1_scalars cs h.1)

all_below : (cs : List ℕ) → ((i : ℕ) → i < length cs → slice_index cs i < 256) → AllByRecursion HasLatin1 cs
all_below [] h = tt {0}
all_below (c ∷ cs) h = (h 0 (omega arith), all_below cs (λ i lt. h (suc i) (omega (arith, lt))))

-- what is spelled in a charset by so many bytes, as units
single_units : (m xs : List ℕ) (align at n size : ℕ) → AreBytes m → (k : ℕ) × (at ≡ k * align) → size ≡ n → at + size ≤ length m → xs ≡ take size (drop at m) → AreUnits m align 1 at n xs
single_units m xs align at n size bytes aligned same inside e =
    let long : length xs ≡ size = ap length e ∙ taken_length m at size inside in
    record {
      aligned = aligned;
      count = omega (arith, long, same);
      row = bytes_row m xs at bytes (omega (arith, inside, long)) (ap (λ k. take k (drop at m)) long ∙ sym e);
    }

double_units : (m cs : List ℕ) (at n size : ℕ) → AreBytes m → (k : ℕ) × (at ≡ k * 2) → size ≡ 2 * n → at + size ≤ length m → flat_map spell_utf16 cs ≡ take size (drop at m) → AreUnits m 2 2 at n (utf16_units cs)
double_units m cs at n size bytes aligned same inside e =
    let us = utf16_units cs in
    let long : 2 * length us ≡ size = sym (unit_length us) ∙ ap length (sym (units_flat cs) ∙ e) ∙ taken_length m at size inside in
    record {
      aligned = aligned;
      count = omega (arith, long, same);
      row = units_row m us at bytes (omega (arith, inside, long)) (ap (λ k. take k (drop at m)) long ∙ sym e ∙ units_flat cs);
    }

tagged_units : (b : Bool) (m cs : List ℕ) (at n : ℕ) → b ≡ nat_lt n UTF16_TAG → AreBytes m → (k : ℕ) × (at ≡ k * 2)
    → at + unit_size (if b then latin1 else utf16) * (if b then n else n - UTF16_TAG) ≤ length m
    → IsText (Has (if b then latin1 else utf16)) (spell (if b then latin1 else utf16)) cs (bytes_from m at (unit_size (if b then latin1 else utf16) * (if b then n else n - UTF16_TAG)))
    → AllByRecursion IsScalar cs × (((n < 2 ^ 31) × AreUnits m 2 1 at n cs) ⊎ ((k : ℕ) × (n ≡ 2 ^ 31 + k) × AreUnits m 2 2 at k (utf16_units cs)))
tagged_units true m cs at n e bytes aligned inside t =
    let small : n < 2 ^ 31 = grind (arith, nat_tests, e) in
    (latin1_scalars cs t.all, inl (small, single_units m cs 2 at n (1 * n) bytes aligned (omega arith) inside (sym (latin1_spelled cs) ∙ t.is)))
tagged_units false m cs at n e bytes aligned inside t =
    let large : 2 ^ 31 ≤ n = grind (arith, nat_tests, e) in
    (t.all, inr (n - 2 ^ 31, omega (arith, large), double_units m cs at (n - 2 ^ 31) (2 * (n - 2 ^ 31)) bytes aligned refl inside t.is))

text_read : (e : StringEncoding) (m cs : List ℕ) (at n : ℕ) → AreBytes m → ShowsText e m at n cs → AllByRecursion IsScalar cs × AreUnitsIn e m at n cs
text_read encoding.Utf8 m cs at n bytes h = (h.text.all, single_units m (utf8_units cs) 1 at n (1 * n) bytes h.aligned (omega arith) h.inside h.text.is)
text_read encoding.Utf16 m cs at n bytes h = (h.text.all, double_units m cs at n (2 * n) bytes h.aligned refl h.inside h.text.is)
text_read encoding.Latin1OrUtf16 m cs at n bytes h = tagged_units (nat_lt n UTF16_TAG) m cs at n refl bytes h.aligned h.inside h.text

pub string_shown : (w : View) (at n : ℕ) (cs : List ℕ) → AreBytes w.memory → ShowsText w.encoding w.memory at n cs → IsString w at n cs
string_shown w at n cs bytes h = let r = text_read w.encoding w.memory cs at n bytes h in record { scalars_are = r.0; units = r.1 }

-- ---- the other way

single_text : (m xs : List ℕ) (align at n size : ℕ) → size ≡ n → AreUnits m align 1 at n xs → (at + size ≤ length m) × (xs ≡ take size (drop at m))
single_text m xs align at n size same h =
    let long : length xs ≡ size = omega (arith, h.count, same) in
    (omega (arith, h.row.inside, long), sym (row_bytes m xs at h.row) ∙ ap (λ k. take k (drop at m)) long)

double_text : (m cs : List ℕ) (at n size : ℕ) → size ≡ 2 * n → AreUnits m 2 2 at n (utf16_units cs) → (at + size ≤ length m) × (flat_map spell_utf16 cs ≡ take size (drop at m))
double_text m cs at n size same h =
    let us = utf16_units cs in
    let long : 2 * length us ≡ size = omega (arith, h.count, same) in
    (omega (arith, h.row.inside, long), units_flat cs ∙ sym (row_units m us at h.row) ∙ ap (λ k. take k (drop at m)) long)

tagged_text : (b : Bool) (m cs : List ℕ) (at n : ℕ) → b ≡ nat_lt n UTF16_TAG → AllByRecursion IsScalar cs
    → ((n < 2 ^ 31) × AreUnits m 2 1 at n cs) ⊎ ((k : ℕ) × (n ≡ 2 ^ 31 + k) × AreUnits m 2 2 at k (utf16_units cs))
    → ((k : ℕ) × (at ≡ k * 2)) × (at + unit_size (if b then latin1 else utf16) * (if b then n else n - UTF16_TAG) ≤ length m)
    × IsText (Has (if b then latin1 else utf16)) (spell (if b then latin1 else utf16)) cs (bytes_from m at (unit_size (if b then latin1 else utf16) * (if b then n else n - UTF16_TAG)))
tagged_text true m cs at n e all (inl u) =
    let t = single_text m cs 2 at n (1 * n) (omega arith) u.1 in
    let below : AllByRecursion HasLatin1 cs = all_below cs (λ i lt. omega (arith, (u.1.row.each i lt).below)) in
    (u.1.aligned, t.0, record { all = below; is = latin1_spelled cs ∙ t.1 })
tagged_text true m cs at n e all (inr u) =
    let small : n < 2 ^ 31 = grind (arith, nat_tests, e) in
    absurd (omega (arith, small, u.1))
tagged_text false m cs at n e all (inl u) =
    let large : 2 ^ 31 ≤ n = grind (arith, nat_tests, e) in
    absurd (omega (arith, large, u.0))
tagged_text false m cs at n e all (inr u) =
    let t = double_text m cs at u.0 (2 * (n - UTF16_TAG)) (omega (arith, u.1)) u.2 in
    (u.2.aligned, t.0, record { all = all; is = t.1 })

text_only : (e : StringEncoding) (m cs : List ℕ) (at n : ℕ) → AllByRecursion IsScalar cs → AreUnitsIn e m at n cs → ShowsText e m at n cs
text_only encoding.Utf8 m cs at n all h =
    let t = single_text m (utf8_units cs) 1 at n (1 * n) (omega arith) h in
    record { aligned = h.aligned; inside = t.0; text = record { all = all; is = t.1 } }
text_only encoding.Utf16 m cs at n all h =
    let t = double_text m cs at n (2 * n) refl h in
    record { aligned = h.aligned; inside = t.0; text = record { all = all; is = t.1 } }
text_only encoding.Latin1OrUtf16 m cs at n all h =
    let t = tagged_text (nat_lt n UTF16_TAG) m cs at n refl all h in
    record { aligned = t.0; inside = t.1; text = t.2 }

pub shown_string : (w : View) (at n : ℕ) (cs : List ℕ) → IsString w at n cs → ShowsText w.encoding w.memory at n cs
shown_string w at n cs h = text_only w.encoding w.memory cs at n h.scalars_are h.units

pub string_read : (w : View) (p : ℕ) (cs : List ℕ) → AreBytes w.memory → Shows w string p (text cs) → IsStringAt w p cs
string_read w p cs bytes h =
    record {
      pointer = number_at 4 w.memory p;
      length = number_at 4 w.memory (p + 4);
      pointer_first = number_stands 4 w.memory p bytes;
      length_behind = number_stands 4 w.memory (p + 4) bytes;
      string = string_shown w (number_at 4 w.memory p) (number_at 4 w.memory (p + 4)) cs bytes h;
    }

pub string_only : (w : View) (p : ℕ) (cs : List ℕ) → IsStringAt w p cs → Shows w string p (text cs)
string_only w p cs h =
    let at = stands_number 4 w.memory p h.pointer h.pointer_first in
    let n = stands_number 4 w.memory (p + 4) h.length h.length_behind in
    subst (λ x. ShowsText w.encoding w.memory x (number_at 4 w.memory (p + 4)) cs) at
    (subst (λ x. ShowsText w.encoding w.memory h.pointer x cs) n (shown_string w h.pointer h.length cs h.string))

-- ---- one string in each encoding: U+1F600

read_length : (w : View) (p : ℕ) (cs : List ℕ) (s : IsStringAt w p cs) (n : ℕ) → s.length ≡ n → StandsAt w.memory (p + 4) 4 n
read_length w p cs s n e = subst (λ x. StandsAt w.memory (p + 4) 4 x) e s.length_behind

pub utf8_example : (w : View) (p : ℕ) → AreBytes w.memory → w.encoding ≡ encoding.Utf8 → Shows w string p (text (0x1F600 ∷ [])) → StandsAt w.memory (p + 4) 4 4
utf8_example w p bytes e h =
    let s = string_read w p (0x1F600 ∷ []) bytes h in
    read_length w p (0x1F600 ∷ []) s 4 (subst (λ x. AreUnitsIn x w.memory s.pointer s.length (0x1F600 ∷ [])) e s.string.units).count

pub utf16_example : (w : View) (p : ℕ) → AreBytes w.memory → w.encoding ≡ encoding.Utf16 → Shows w string p (text (0x1F600 ∷ [])) → StandsAt w.memory (p + 4) 4 2
utf16_example w p bytes e h =
    let s = string_read w p (0x1F600 ∷ []) bytes h in
    read_length w p (0x1F600 ∷ []) s 2 (subst (λ x. AreUnitsIn x w.memory s.pointer s.length (0x1F600 ∷ [])) e s.string.units).count

pub tagged_example : (w : View) (p : ℕ) → AreBytes w.memory → w.encoding ≡ encoding.Latin1OrUtf16 → Shows w string p (text (0x1F600 ∷ [])) → StandsAt w.memory (p + 4) 4 0x80000002
tagged_example w p bytes e h =
    let s = string_read w p (0x1F600 ∷ []) bytes h in
    read_length w p (0x1F600 ∷ []) s 0x80000002 (elim (subst (λ x. AreUnitsIn x w.memory s.pointer s.length (0x1F600 ∷ [])) e s.string.units) [
      | inl u ↦ let one : 0x1F600 < 256 ^ 1 = (u.1.row.each 0 (omega arith)).below in absurd (omega (arith, one))
      | inr u ↦ omega (arith, u.1, u.2.count)
    ])
