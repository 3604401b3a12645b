-- Table 3-7 against the spellings of UTF-8.
use Rattle.std.proofs.Common.{◌≡◌, ℕ, ◌+◌, ◌-◌, ◌*◌, List, [], ◌∷◌, sym, ap, subst, ◌∙◌, arith, IsTrue}
use Rattle.std.proofs.lemmas.Bool.Decides.{nat_tests}
use Rattle.std.specs.Char.{IsScalar}
use lib.Utf8.{scalar_cases}
use Rattle.cm_text.specs.Utf8.{spell_utf8}
use Rattle.cm_text.specs.WellFormed.{is_well_formed_utf8, is_well_formed_utf16}
use Rattle.std.specs.Char.Escape.{encode_utf16}
use Rattle.std.proofs.lemmas.List.{append-nil}
use Rattle.cm_text.specs.Utf16.{units, spell_utf16}
use Rattle.cm_text.specs.Utf16Laws.{units_of_units}

pub spelled_well : (c : ℕ) → IsScalar c → IsTrue (is_well_formed_utf8 (spell_utf8 c))
spelled_well c is = let apart = scalar_cases c is in grind (arith, nat_tests)

pub well_read : (bytes : List ℕ) → IsTrue (is_well_formed_utf8 bytes) → (c : ℕ) × IsScalar c × (spell_utf8 c ≡ bytes)
well_read [] well = absurd (cc)
well_read (a ∷ []) well = (a, grind (arith, nat_tests), grind (arith, nat_tests))
well_read (a ∷ b ∷ []) well =
    let x = (a - 0xC0) * 64 + (b - 0x80) in
    (x, grind (arith, nat_tests), grind (arith, nat_tests))
well_read (a ∷ b ∷ c ∷ []) well =
    let x = ((a - 0xE0) * 64 + (b - 0x80)) * 64 + (c - 0x80) in
    (x, grind (arith, nat_tests), grind (arith, nat_tests))
well_read (a ∷ b ∷ c ∷ d ∷ []) well =
    let x = (((a - 0xF0) * 64 + (b - 0x80)) * 64 + (c - 0x80)) * 64 + (d - 0x80) in
    (x, grind (arith, nat_tests), grind (arith, nat_tests))
well_read (a ∷ b ∷ c ∷ d ∷ e ∷ bytes) well = absurd (cc)

-- the units of a scalar
units_one : (c : ℕ) → units (spell_utf16 c) ≡ encode_utf16 c
units_one c = ap units (sym (append-nil (spell_utf16 c))) ∙ units_of_units (encode_utf16 c) [] ∙ append-nil (encode_utf16 c)

encoded_well_16 : (c : ℕ) → IsScalar c → IsTrue (is_well_formed_utf16 (encode_utf16 c))
encoded_well_16 c is = let apart = scalar_cases c is in grind (arith, nat_tests)

pub spelled_well_16 : (c : ℕ) → IsScalar c → IsTrue (is_well_formed_utf16 (units (spell_utf16 c)))
spelled_well_16 c is = subst (λ us. IsTrue (is_well_formed_utf16 us)) (sym (units_one c)) (encoded_well_16 c is)

pub well_read_16 : (us : List ℕ) → IsTrue (is_well_formed_utf16 us) → (c : ℕ) × IsScalar c × (units (spell_utf16 c) ≡ us)
well_read_16 [] well = absurd (cc)
well_read_16 (u ∷ []) well =
    let same : encode_utf16 u ≡ u ∷ [] = grind (arith, nat_tests) in
    (u, grind (arith, nat_tests), units_one u ∙ same)
well_read_16 (high ∷ low ∷ []) well =
    let c = 0x10000 + (high - 0xD800) * 0x400 + (low - 0xDC00) in
    let same : encode_utf16 c ≡ high ∷ low ∷ [] = grind (arith, nat_tests) in
    (c, grind (arith, nat_tests), units_one c ∙ same)
well_read_16 (a ∷ b ∷ c ∷ us) well = absurd (cc)
