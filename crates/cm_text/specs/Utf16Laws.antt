-- What UTF-16 owes as an encoding: no two scalars share a spelling, none is a beginning of another,
-- and each has one or two units.
use Rattle.std.specs.Prelude.{◌≡◌, ℕ, ◌+◌, ◌-◌, ◌*◌, ◌/◌, ◌%◌, ◌<◌, ◌≤◌, List, [], ◌∷◌, ◌++◌}
use Rattle.std.specs.Prelude.{length, slice_index, refl}
use Rattle.std.proofs.Common.{sym, ap, ◌∙◌, arith, ⊎_elim}
use Rattle.std.proofs.lemmas.Bool.{cases_lt}
use Rattle.std.proofs.lemmas.Bool.Decides.{nat_tests}
use Rattle.std.specs.Char.{IsScalar}
use Rattle.std.specs.Char.Escape.{encode_utf16}
use Rattle.std.specs.List.{flat_map}
use lib.Utf8.{scalar_cases}
use Rattle.cm_text.specs.Utf16.{unit, units, bytes_of_unit, spell_utf16}

-- units are what their bytes hold
pub units_of_units : (us ys : List ℕ) → units (flat_map bytes_of_unit us ++ ys) ≡ us ++ units ys
units_of_units [] ys = refl
units_of_units (u ∷ us) ys =
    let same : unit (u % 256) (u / 256) ≡ u = omega arith in
    ap (λ x. x ∷ units (flat_map bytes_of_unit us ++ ys)) same ∙ ap (λ xs.
    u ∷ xs) (units_of_units us ys)

pub one_unit : (c : ℕ) → c < 0x10000 → encode_utf16 c ≡ c ∷ []
one_unit c small = grind (arith, nat_tests)

two_units : (c : ℕ) → 0x10000 ≤ c
    → encode_utf16 c ≡ (0xD800 + (c - 0x10000) / 0x400) ∷ (0xDC00 + (c - 0x10000) % 0x400) ∷ []
two_units c large = grind (arith, nat_tests)

same_units : (c d : ℕ) (us vs : List ℕ) → IsScalar c → IsScalar d
    → encode_utf16 c ++ us ≡ encode_utf16 d ++ vs → c ≡ d
same_units c d us vs is_c is_d same =
    let apart_c = scalar_cases c is_c in
    let apart_d = scalar_cases d is_d in
    ⊎_elim
    (λ small_c.
    ⊎_elim
    (λ small_d.
    let joined : c ∷ us ≡ d
    ∷ vs = ap (λ xs. xs ++ us) (sym (one_unit c small_c)) ∙ same ∙ ap (λ xs.
    xs ++ vs) (one_unit d small_d) in
    ap (λ xs. slice_index xs 0) joined)
    (λ large_d.
    let joined =
    ap (λ xs. xs ++ us) (sym (one_unit c small_c)) ∙ same ∙ ap (λ xs.
    xs ++ vs) (two_units d large_d) in
    let first : c ≡ 0xD800 + (d - 0x10000) / 0x400 = ap (λ xs. slice_index xs 0) joined in
    absurd (omega arith))
    (cases_lt d 0x10000))
    (λ large_c.
    ⊎_elim
    (λ small_d.
    let joined =
    ap (λ xs. xs ++ us) (sym (two_units c large_c)) ∙ same ∙ ap (λ xs.
    xs ++ vs) (one_unit d small_d) in
    let first : 0xD800 + (c - 0x10000) / 0x400 ≡ d = ap (λ xs. slice_index xs 0) joined in
    absurd (omega arith))
    (λ large_d.
    let joined =
    ap (λ xs. xs ++ us) (sym (two_units c large_c)) ∙ same ∙ ap (λ xs.
    xs ++ vs) (two_units d large_d) in
    let first : 0xD800 + (c - 0x10000) / 0x400
    ≡ 0xD800 + (d - 0x10000) / 0x400 = ap (λ xs. slice_index xs 0) joined in
    let second : 0xDC00 + (c - 0x10000) % 0x400
    ≡ 0xDC00 + (d - 0x10000) % 0x400 = ap (λ xs. slice_index xs 1) joined in
    omega arith)
    (cases_lt d 0x10000))
    (cases_lt c 0x10000)

pub utf16_one_spelling : (c d : ℕ) (x y : List ℕ) → IsScalar c → IsScalar d
    → spell_utf16 c ++ x ≡ spell_utf16 d ++ y → c ≡ d
utf16_one_spelling c d x y is_c is_d same =
    same_units c d (units x) (units y) is_c is_d
    (sym (units_of_units (encode_utf16 c) x) ∙ ap units same ∙ units_of_units (encode_utf16 d) y)

pub length_of_units : (us : List ℕ) → length (flat_map bytes_of_unit us) ≡ 2 * length us
length_of_units [] = refl
length_of_units (u ∷ us) = omega (arith, length_of_units us)

pub some_unit : (c : ℕ) → 0 < length (encode_utf16 c)
some_unit c = grind (arith, nat_tests)

pub utf16_some_byte : (c : ℕ) → 0 < length (spell_utf16 c)
utf16_some_byte c = omega (arith, length_of_units (encode_utf16 c), some_unit c)

pub utf16_units : (c : ℕ)
    → (n : ℕ) × (length (spell_utf16 c) ≡ 2 * n) × (length (encode_utf16 c) ≤ n)
utf16_units c = (length (encode_utf16 c), length_of_units (encode_utf16 c), omega arith)

-- two bytes for a unit, always
pub utf16_grows : (c : ℕ) → length (spell_utf16 c) ≤ 2 * length (encode_utf16 c)
utf16_grows c = omega (arith, length_of_units (encode_utf16 c))
