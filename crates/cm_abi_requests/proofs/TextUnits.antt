-- How many bytes texts take in one charset and in another.
use Rattle.std.proofs.Common.{ℕ, ◌*◌, ◌/◌, ◌≤◌, List, [], ◌∷◌, length, arith, length-append}
use Rattle.std.proofs.lemmas.Bool.Decides.{nat_tests}
use Rattle.std.specs.Char.Escape.{encode_utf16}
use Rattle.cm_text.specs.Utf16Laws.{length_of_units}
use Rattle.cm_abi_model.specs.Requests.{text_bytes, text_units}
use Rattle.cm_abi_model.specs.Taken.{MAX_CONTENT}
use Rattle.cm_abi_model.specs.Texts.{Charset, spell, unit_size, utf8, utf16, latin1}

units_of_one : (c : ℕ) → (1 ≤ length (encode_utf16 c)) × (length (encode_utf16 c) ≤ 2)
units_of_one c = (grind (arith, nat_tests), grind (arith, nat_tests))

bytes_of_one : (s : Charset) (c : ℕ) → (1 ≤ length (spell s c)) × (length (spell s c) ≤ 4)
bytes_of_one utf8 c = (grind (arith, nat_tests), grind (arith, nat_tests))
bytes_of_one utf16 c = let n = units_of_one c in (omega (arith, n.0, n.1, length_of_units (encode_utf16 c)), omega (arith, n.0, n.1, length_of_units (encode_utf16 c)))
bytes_of_one latin1 c = (omega arith, omega arith)

bytes_of_all : (s : Charset) (cs : List ℕ) → (length cs ≤ length (text_bytes s cs)) × (length (text_bytes s cs) ≤ 4 * length cs)
bytes_of_all s [] = (omega arith, omega arith)
bytes_of_all s (c ∷ cs) =
    let one = bytes_of_one s c in
    let rest = bytes_of_all s cs in
    let both = length-append (spell s c) (text_bytes s cs) in
    (omega (arith, one.0, rest.0, both), omega (arith, one.1, rest.1, both))

-- no text takes more than four bytes for each that it takes in another charset
pub bytes_within : (source target : Charset) (cs : List ℕ) → length (text_bytes source cs) ≤ MAX_CONTENT → length (text_bytes target cs) ≤ 4 * MAX_CONTENT
bytes_within source target cs small =
    let low = (bytes_of_all source cs).0 in
    let high = (bytes_of_all target cs).1 in
    omega (arith, small, low, high)

units_less : (s : Charset) (n : ℕ) → n / unit_size s ≤ n
units_less utf8 n = omega arith
units_less utf16 n = omega arith
units_less latin1 n = omega arith

pub units_within : (source s : Charset) (cs : List ℕ) → length (text_bytes source cs) ≤ MAX_CONTENT → text_units s cs ≤ 4 * MAX_CONTENT
units_within source s cs small =
    let most = bytes_within source s cs small in
    let less = units_less s (length (text_bytes s cs)) in
    omega (arith, most, less)
