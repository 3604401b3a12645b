-- Where a text takes as many units as bytes, all of it is ASCII.
use Rattle.std.proofs.Common.{◌≡◌, ℕ, ◌*◌, ◌<◌, ◌≤◌, List, [], ◌∷◌, ◌++◌, length, take, refl, sym, ap, subst, ◌∙◌, arith, length-append, take_all, ⊎_elim}
use Rattle.std.proofs.lemmas.Bool.{cases_lt}
use Rattle.std.proofs.lemmas.Bool.Decides.{nat_tests}
use Rattle.std.specs.Char.{IsScalar, is_ascii}
use Rattle.std.specs.Char.Escape.{encode_utf16}
use Rattle.std.specs.List.{flat_map, prefix_len}
use Rattle.cm_text.specs.Ascii.{wide}
use Rattle.cm_text.specs.Text.{IsText, IsTextOfSize}
use Rattle.cm_text.specs.Utf16.{units, first_bytes, spell_utf16}
use Rattle.cm_text.specs.Utf16Laws.{length_of_units, one_unit}
use Rattle.cm_text.specs.Utf8.{spell_utf8}
use Rattle.cm_text.proofs.AsciiLemmas.{AreAscii, ascii_in_run, ascii_scalars, ascii_utf8, ascii_utf16, length-wide, utf8_laws, utf16_laws}
use Rattle.cm_text.proofs.CountLemmas.{units_of_text}
use Rattle.cm_text.proofs.PairLemmas.{unit_run_of}
use Rattle.cm_text.proofs.TextLemmas.{one_text}

-- a scalar takes a unit at the most for each of its bytes, and less if it is not ASCII
pub units_le : (c : ℕ) → length (encode_utf16 c) ≤ length (spell_utf8 c)
units_le c = grind (arith, nat_tests)

units_lt : (c : ℕ) → 128 ≤ c → length (encode_utf16 c) < length (spell_utf8 c)
units_lt c past = grind (arith, nat_tests)

text_le : (cs : List ℕ) → length (flat_map spell_utf16 cs) ≤ 2 * length (flat_map spell_utf8 cs)
text_le [] = omega arith
text_le (c ∷ cs) =
    omega (
      arith,
      units_le c,
      length_of_units (encode_utf16 c),
      text_le cs,
      length-append (spell_utf16 c) (flat_map spell_utf16 cs),
      length-append (spell_utf8 c) (flat_map spell_utf8 cs),
    )

pub tight : (cs : List ℕ) → 2 * length (flat_map spell_utf8 cs) ≤ length (flat_map spell_utf16 cs) → AreAscii cs
tight [] full = tt
tight (c ∷ cs) full =
    let one = length-append (spell_utf16 c) (flat_map spell_utf16 cs) in
    let two = length-append (spell_utf8 c) (flat_map spell_utf8 cs) in
    let size = length_of_units (encode_utf16 c) in (
      ⊎_elim (λ low. low) (λ past. absurd (omega (arith, units_lt c past, text_le cs, one, two, size, full))) (cases_lt c 128),
      tight cs (omega (arith, units_le c, one, two, size, full)),
    )

-- a text in UTF-8 that takes two bytes for each of its own
pub widened_text : (cs bytes out : List ℕ) → IsText IsScalar spell_utf8 cs bytes → IsTextOfSize IsScalar spell_utf8 spell_utf16 bytes (length out)
    → length out ≡ 2 * length bytes → (new : List ℕ) → new ≡ flat_map wide bytes → new ≡ flat_map spell_utf16 cs
widened_text cs bytes out text whole full new is =
    let same : whole.scalars ≡ cs = one_text IsScalar spell_utf8 utf8_laws whole.scalars cs bytes whole.text text in
    let ascii : AreAscii cs = tight cs (omega (arith, whole.size_is, ap (λ xs. length (flat_map spell_utf16 xs)) same, ap length text.is)) in
    is ∙ ap (flat_map wide) (sym text.is ∙ ascii_utf8 cs ascii) ∙ sym (ascii_utf16 cs ascii)

-- a text in UTF-16 that takes a byte for two of its own
pub narrow_text : (bytes : List ℕ) (size : ℕ) → IsTextOfSize IsScalar spell_utf16 spell_utf8 bytes size → 2 * size ≡ length bytes → (cs : List ℕ) → IsText IsScalar spell_utf16 cs bytes
    → AreAscii cs
narrow_text bytes size whole full cs text =
    let same : whole.scalars ≡ cs = one_text IsScalar spell_utf16 utf16_laws whole.scalars cs bytes whole.text text in
    tight cs (omega (arith, whole.size_is, ap (λ xs. length (flat_map spell_utf8 xs)) same, ap length text.is))

units_of_ascii : (cs : List ℕ) → AreAscii cs → flat_map encode_utf16 cs ≡ cs
units_of_ascii [] all = refl
units_of_ascii (c ∷ cs) all =
    ap (λ us. us ++ flat_map encode_utf16 cs) (one_unit c (omega (arith, all.0))) ∙ ap (λ us. c ∷ us) (units_of_ascii cs all.1)

pub narrow_units : (cs bytes : List ℕ) → IsText IsScalar spell_utf16 cs bytes → AreAscii cs → AreAscii (units bytes)
narrow_units cs bytes text ascii = subst AreAscii (sym (units_of_ascii cs ascii) ∙ sym (units_of_text cs) ∙ ap units text.is) ascii

first-wide : (cs : List ℕ) → first_bytes (flat_map wide cs) ≡ cs
first-wide [] = refl
first-wide (c ∷ cs) = ap (λ xs. c ∷ xs) (first-wide cs)

pub narrowed_text : (cs bytes new : List ℕ) → IsText IsScalar spell_utf16 cs bytes → AreAscii cs → new ≡ first_bytes bytes → new ≡ flat_map spell_utf8 cs
narrowed_text cs bytes new text ascii is =
    is ∙ ap first_bytes (sym text.is ∙ ascii_utf16 cs ascii) ∙ first-wide cs ∙ sym (ascii_utf8 cs ascii)

-- the size in UTF-16 of bytes that are ASCII as a whole
pub ascii_of_size : (bytes : List ℕ) → prefix_len is_ascii bytes ≡ length bytes → IsTextOfSize IsScalar spell_utf8 spell_utf16 bytes (2 * length bytes)
ascii_of_size bytes whole =
    let all : AreAscii bytes = subst AreAscii (take_all (prefix_len is_ascii bytes) bytes (omega arith)) (ascii_in_run bytes) in
    record {
      scalars = bytes;
      text = record { all = ascii_scalars bytes all; is = ascii_utf8 bytes all };
      size_is = ap length (ascii_utf16 bytes all) ∙ length-wide bytes;
    }

-- their size in UTF-8, which is their own
pub ascii_of_own_size : (bytes : List ℕ) → prefix_len is_ascii bytes ≡ length bytes → IsTextOfSize IsScalar spell_utf8 spell_utf8 bytes (length bytes)
ascii_of_own_size bytes whole =
    let wide = ascii_of_size bytes whole in
    record { scalars = wide.scalars; text = wide.text; size_is = ap length wide.text.is }

-- the size in UTF-8 of units that are ASCII as a whole
pub ascii_units_of_size : (bytes : List ℕ) (n : ℕ) → n ≡ prefix_len is_ascii (units bytes) → 2 * n ≡ length bytes → IsTextOfSize IsScalar spell_utf16 spell_utf8 bytes n
ascii_units_of_size bytes n is whole =
    let run = unit_run_of bytes n is in
    let xs = first_bytes (take (2 * n) bytes) in
    record {
      scalars = xs;
      text = record { all = ascii_scalars xs run.all; is = ascii_utf16 xs run.all ∙ run.whole ∙ take_all (2 * n) bytes (omega arith) };
      size_is = ap length (ascii_utf8 xs run.all) ∙ run.count;
    }
