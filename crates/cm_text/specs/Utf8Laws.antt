-- What UTF-8 owes as an encoding: no two scalars share a spelling, none is a beginning of another,
-- and each has one to four bytes.
use Rattle.std.specs.Prelude.{◌≡◌, ℕ, ◌*◌, ◌<◌, ◌≤◌, List, ◌++◌, length, refl}
use Rattle.std.proofs.Common.{sym, ap, ◌∙◌, arith}
use Rattle.std.proofs.lemmas.Bool.Decides.{nat_tests}
use Rattle.std.proofs.lemmas.Str.{encode_same}
use Rattle.std.specs.Char.{encode_utf8}
use Rattle.std.specs.Char.Escape.{encode_utf16}
use Rattle.cm_text.specs.Utf8.{spell_utf8}

-- the bytes that `char::encode_utf8` writes
pub spell_utf8-encode : (c : ℕ) → spell_utf8 c ≡ encode_utf8 c
unfolding encode_utf8
spell_utf8-encode c = refl

pub utf8_some_byte : (c : ℕ) → 0 < length (spell_utf8 c)
utf8_some_byte c = grind (arith, nat_tests)

pub utf8_one_spelling : (c d : ℕ) (x y : List ℕ) → spell_utf8 c ++ x ≡ spell_utf8 d ++ y → c ≡ d
utf8_one_spelling c d x y same =
    (encode_same c d x y (ap (λ bs. bs ++ x) (sym (spell_utf8-encode c)) ∙ same ∙ ap (λ bs.
    bs ++ y) (spell_utf8-encode d))).0

pub utf8_units : (c : ℕ) → (n : ℕ) × (length (spell_utf8 c) ≡ 1 * n) × (length (encode_utf16 c) ≤ n)
utf8_units c = (length (spell_utf8 c), omega arith, grind (arith, nat_tests))

-- three bytes for a unit of UTF-16 at the most
pub utf8_grows : (c : ℕ) → length (spell_utf8 c) ≤ 3 * length (encode_utf16 c)
utf8_grows c = grind (arith, nat_tests)
