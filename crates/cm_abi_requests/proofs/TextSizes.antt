-- How many bytes texts take.
use Rattle.std.proofs.Common.{◌≡◌, ℕ, suc, ◌*◌, ◌<◌, ◌≤◌, ◌&&◌, true, List, [], ◌∷◌, length, refl, ap, subst, arith, length-append}
use Rattle.std.proofs.Math.Seq.{take-length}
use Rattle.std.proofs.lemmas.Bool.{and_parts}
use Rattle.std.proofs.lemmas.Bool.Decides.{nat_tests}
use Rattle.std.proofs.lemmas.Str.{chars-encodes, scalars-chars}
use Rattle.std.specs.Char.{IsScalar}
use Rattle.std.specs.Char.Escape.{encode_utf16}
use Rattle.std.specs.List.{AllByRecursion, flat_map}
use Rattle.std.specs.Str.{all_scalars}
use Rattle.cm_text.specs.Fault.{IsIllFormed}
use Rattle.cm_text.specs.Latin1.{spell_latin1}
use Rattle.cm_text.specs.Text.{IsText, IsTextOfSize, IsTextUpTo}
use Rattle.cm_text.specs.Utf16.{spell_utf16}
use Rattle.cm_text.specs.Utf16Laws.{length_of_units}
use Rattle.cm_text.specs.declared.fault.TextFault.{TextFault}
use Rattle.cm_text.specs.declared.fault.TextFault.TheVariants as text_fault
use Rattle.cm_abi_model.specs.Requests.{text_bytes}
use Rattle.cm_abi_model.specs.Taken.{MAX_CONTENT}
use Rattle.cm_abi_model.specs.Texts.{Charset, spell, utf8, utf16, latin1}

-- ---- a string is a text

pub size_1 : (cs : List ℕ) → length cs ≡ length (flat_map spell_latin1 cs)
size_1 [] = refl
size_1 (c ∷ cs) = ap suc (size_1 cs)

-- ---- a text takes no more than four bytes for each that it takes elsewhere

units_of_one : (c : ℕ) → (1 ≤ length (encode_utf16 c)) × (length (encode_utf16 c) ≤ 2)
units_of_one c = (grind (arith, nat_tests), grind (arith, nat_tests))

bytes_of_one : (s : Charset) (c : ℕ) → (1 ≤ length (spell s c)) × (length (spell s c) ≤ 4)
bytes_of_one utf8 c = (grind (arith, nat_tests), grind (arith, nat_tests))
bytes_of_one utf16 c = let n = units_of_one c in (omega (arith, n.0, n.1, length_of_units (encode_utf16 c)), omega (arith, n.0, n.1, length_of_units (encode_utf16 c)))
bytes_of_one latin1 c = (omega arith, omega arith)

bytes_of_all : (s : Charset) (cs : List ℕ) → (length cs ≤ length (text_bytes s cs)) × (length (text_bytes s cs) ≤ 4 * length cs)
bytes_of_all s [] = (omega arith, omega arith)
bytes_of_all s (c ∷ cs) =
    let one = bytes_of_one s c in
    let rest = bytes_of_all s cs in
    let both = length-append (spell s c) (text_bytes s cs) in
    (omega (arith, one.0, rest.0, both), omega (arith, one.1, rest.1, both))

pub text_fits : (source target : Charset) (cs : List ℕ) (n : ℕ) → length (text_bytes source cs) ≤ MAX_CONTENT → n ≡ length (text_bytes target cs) → n < 4294967296
text_fits source target cs n small is =
    let low = (bytes_of_all source cs).0 in
    let high = (bytes_of_all target cs).1 in
    omega (arith, small, is, low, high)
