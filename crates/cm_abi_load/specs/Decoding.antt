-- What is decoded of bytes is the text that they spell, and every text is decoded so.
use Rattle.std.proofs.Common.{◌≡◌, ℕ, ◌+◌, ◌*◌, ◌-◌, ◌/◌, ◌%◌, ◌<◌, ◌≤◌, Bool, true, false, ◌&&◌}
use Rattle.std.proofs.Common.{List, [], ◌∷◌, ◌++◌, Some, None, refl, sym, ap, subst, ◌∙◌}
use Rattle.std.proofs.Common.{◌⊎◌, inl, inr, arith, nat_lt, nat_le}
use Rattle.std.specs.Prelude.{if◌then◌else◌}
use Rattle.std.proofs.lemmas.Bool.{and_parts, and_from, lt-ltb, ltb-true, ltb-false}
use Rattle.std.proofs.lemmas.Bool.Decides.{nat_tests}
use Rattle.std.proofs.lemmas.Slice.Eq.{bytes_eq-Decides}
use Rattle.std.proofs.lemmas.Str.{chars-encodes}
use Rattle.std.proofs.Math.Utf8.{scalar_cases}
use Rattle.std.specs.Char.{IsScalar}
use Rattle.std.specs.Char.Escape.{encode_utf16}
use Rattle.std.specs.List.{AllByRecursion, flat_map, list_all}
use Rattle.std.specs.Str.{all_scalars, bytes_eq, chars, encode_utf8_all}
use Rattle.cm_text.specs.Text.{IsText}
use Rattle.cm_text.specs.Utf8.{spell_utf8}
use Rattle.cm_text.specs.Utf8Laws.{spell_utf8-encode}
use Rattle.cm_text.specs.Utf16.{bytes_of_unit, spell_utf16, unit, units}
use Rattle.cm_text.specs.Latin1.{HasLatin1, spell_latin1}
use Rattle.cm_abi_model.specs.Texts.{Charset, Has, spell, utf8, utf16, latin1}
use Rattle.cm_abi_model.specs.Requests.{text_bytes}
use Rattle.cm_abi_load.specs.Decoded.{decoded, if_text, unpaired}

pub all_of : (cs : List ℕ) → all_scalars cs ≡ true → AllByRecursion IsScalar cs
all_of [] is = tt
all_of (c ∷ cs) is = let parts = and_parts _ _ is in (parts.0, all_of cs parts.1)

pub from_all : (cs : List ℕ) → AllByRecursion IsScalar cs → all_scalars cs ≡ true
from_all [] all = refl
from_all (c ∷ cs) all = ap (λ b. b && all_scalars cs) all.0 ∙ from_all cs all.1

-- the scalars are those of the bytes
is_text : (s : Charset) (bytes found cs : List ℕ) → found ≡ cs → all_scalars cs ≡ true
    → text_bytes s cs ≡ bytes → if_text s bytes found ≡ Some cs
is_text s bytes found cs e all same =
    rw (e, all, (bytes_eq-Decides (text_bytes s cs) bytes).1 same) refl

-- ---- UTF-8

pub spelled : (cs : List ℕ) → encode_utf8_all cs ≡ flat_map spell_utf8 cs
spelled [] = refl
spelled (c ∷ cs) =
    ap (λ ys. ys ++ encode_utf8_all cs) (sym (spell_utf8-encode c))
    ∙ ap (λ ys. spell_utf8 c ++ ys) (spelled cs)

from_utf8 : (cs bytes : List ℕ) → IsText IsScalar spell_utf8 cs bytes
    → decoded utf8 bytes ≡ Some cs
unfolding decoded
from_utf8 cs bytes t =
    let same : chars bytes ≡ cs =
    ap chars (sym (spelled cs ∙ t.is)) ∙ chars-encodes cs (from_all cs t.all) in
    is_text utf8 bytes (chars bytes) cs same (from_all cs t.all) t.is

-- ---- UTF-16

unit_back : (u : ℕ) → unit (u % 256) (u / 256) ≡ u
unit_back u = omega arith

units_back : (us xs : List ℕ) → units (flat_map bytes_of_unit us ++ xs) ≡ us ++ units xs
units_back [] xs = refl
units_back (u ∷ us) xs =
    ap (λ v. v ∷ units (flat_map bytes_of_unit us ++ xs)) (unit_back u)
    ∙ ap (λ vs. u ∷ vs) (units_back us xs)

units_of_text : (cs : List ℕ) → units (flat_map spell_utf16 cs) ≡ flat_map encode_utf16 cs
units_of_text [] = refl
units_of_text (c ∷ cs) =
    units_back (encode_utf16 c) (flat_map spell_utf16 cs)
    ∙ ap (λ us. encode_utf16 c ++ us) (units_of_text cs)

not_high : (c : ℕ) → (c < 55296) ⊎ ((57344 ≤ c) × (c < 1114112))
    → (nat_le 0xD800 c && nat_lt c 0xDC00) ≡ false
not_high c (inl low) = grind (arith, nat_tests)
not_high c (inr high) = grind (arith, nat_tests)

one_unit : (c : ℕ) (us : List ℕ) → (c < 55296) ⊎ ((57344 ≤ c) × (c < 1114112))
    → unpaired (c ∷ us) ≡ c ∷ unpaired us
one_unit c [] apart = refl
one_unit c (v ∷ us) apart = rw (not_high c apart) refl

is_high : (d : ℕ) → d < 0x100000
    → (nat_le 0xD800 (0xD800 + d / 0x400) && nat_lt (0xD800 + d / 0x400) 0xDC00) ≡ true
is_high d small =
    let below : d / 0x400 < 0x400 = omega arith in grind (arith, nat_tests)

two_units : (c : ℕ) (us : List ℕ) → 0x10000 ≤ c → c < 0x110000
    → unpaired ((0xD800 + (c - 0x10000) / 0x400) ∷ (0xDC00 + (c - 0x10000) % 0x400) ∷ us)
    ≡ c ∷ unpaired us
two_units c us big small =
    let same : 0x10000 + (0xD800 + (c - 0x10000) / 0x400 - 0xD800) * 0x400
    + (0xDC00 + (c - 0x10000) % 0x400 - 0xDC00) ≡ c = omega arith in
    rw (is_high (c - 0x10000) (omega arith)) (ap (λ d. d ∷ unpaired us) same)

below_end : (c : ℕ) → (c < 55296) ⊎ ((57344 ≤ c) × (c < 1114112)) → c < 0x110000
below_end c (inl low) = omega arith
below_end c (inr high) = high.1

one_scalar : (c : ℕ) (us : List ℕ) (b : Bool) → nat_lt c 0x10000 ≡ b
    → (c < 55296) ⊎ ((57344 ≤ c) × (c < 1114112))
    → unpaired (encode_utf16 c ++ us) ≡ c ∷ unpaired us
one_scalar c us true e apart = rw e (one_unit c us apart)
one_scalar c us false e apart =
    rw e (two_units c us (ltb-false c 0x10000 e) (below_end c apart))

all_back : (cs : List ℕ) → AllByRecursion IsScalar cs → unpaired (flat_map encode_utf16 cs) ≡ cs
all_back [] all = refl
all_back (c ∷ cs) all =
    one_scalar c (flat_map encode_utf16 cs) (nat_lt c 0x10000) refl (scalar_cases c all.0)
    ∙ ap (λ ds. c ∷ ds) (all_back cs all.1)

from_utf16 : (cs bytes : List ℕ) → IsText IsScalar spell_utf16 cs bytes
    → decoded utf16 bytes ≡ Some cs
unfolding decoded
from_utf16 cs bytes t =
    let same : unpaired (units bytes) ≡ cs =
    ap (λ bs. unpaired (units bs)) (sym t.is)
    ∙ (ap unpaired (units_of_text cs) ∙ all_back cs t.all) in
    is_text utf16 bytes (unpaired (units bytes)) cs same (from_all cs t.all) t.is

-- ---- Latin-1

pub same_bytes : (cs : List ℕ) → flat_map spell_latin1 cs ≡ cs
same_bytes [] = refl
same_bytes (c ∷ cs) = ap (λ ds. c ∷ ds) (same_bytes cs)

all_bytes : (cs : List ℕ) → AllByRecursion HasLatin1 cs
    → list_all (λ b. nat_lt b 0x100) cs ≡ true
all_bytes [] all = refl
all_bytes (c ∷ cs) all = and_from _ _ (lt-ltb c 0x100 all.0) (all_bytes cs all.1)

pub bytes_all : (cs : List ℕ) → list_all (λ b. nat_lt b 0x100) cs ≡ true
    → AllByRecursion HasLatin1 cs
bytes_all [] all = tt
bytes_all (c ∷ cs) all =
    let both = and_parts _ _ all in (ltb-true c 0x100 both.0, bytes_all cs both.1)

from_latin1 : (cs bytes : List ℕ) → IsText HasLatin1 spell_latin1 cs bytes
    → decoded latin1 bytes ≡ Some cs
unfolding decoded
from_latin1 cs bytes t =
    let same : bytes ≡ cs = sym t.is ∙ same_bytes cs in
    rw (same, all_bytes cs t.all) refl

-- ---- every text is decoded

pub text_decoded : (s : Charset) (cs bytes : List ℕ) → IsText (Has s) (spell s) cs bytes
    → decoded s bytes ≡ Some cs
text_decoded utf8 cs bytes t = from_utf8 cs bytes t
text_decoded utf16 cs bytes t = from_utf16 cs bytes t
text_decoded latin1 cs bytes t = from_latin1 cs bytes t

-- ---- what is decoded is the text

chosen : (b : Bool) (x cs : List ℕ) → (if b then Some x else None) ≡ Some cs
    → (b ≡ true) × (x ≡ cs)
chosen true x cs e = (refl, cc)
chosen false x cs e = absurd (cc)

if_text_is : (s : Charset) (bytes found cs : List ℕ) → if_text s bytes found ≡ Some cs
    → AllByRecursion IsScalar cs × (text_bytes s cs ≡ bytes)
if_text_is s bytes found cs e =
    let all = all_scalars found in
    let same = bytes_eq (text_bytes s found) bytes in
    let picked = chosen (all && same) found cs e in
    let both = and_parts all same picked.0 in
    subst (λ ds. AllByRecursion IsScalar ds × (text_bytes s ds ≡ bytes)) picked.1
    (all_of found both.0, (bytes_eq-Decides (text_bytes s found) bytes).0 both.1)

pub decoded_text : (s : Charset) (cs bytes : List ℕ) → decoded s bytes ≡ Some cs
    → IsText (Has s) (spell s) cs bytes
unfolding decoded
decoded_text utf8 cs bytes e =
    let t = if_text_is utf8 bytes (chars bytes) cs e in record { all = t.0; is = t.1 }
decoded_text utf16 cs bytes e =
    let t = if_text_is utf16 bytes (unpaired (units bytes)) cs e in
    record { all = t.0; is = t.1 }
decoded_text latin1 cs bytes e =
    let picked = chosen (list_all (λ b. nat_lt b 0x100) bytes) bytes cs e in
    subst (λ ds. IsText HasLatin1 spell_latin1 ds bytes) picked.1
    (record { all = bytes_all bytes picked.0; is = same_bytes bytes })
