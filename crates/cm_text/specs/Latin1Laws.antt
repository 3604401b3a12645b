-- What Latin-1 owes as an encoding that texts are read from.
use Rattle.std.specs.Prelude.{◌≡◌, ℕ, ◌*◌, ◌<◌, ◌≤◌, List, ◌++◌, length, slice_index}
use Rattle.std.proofs.Common.{ap, arith}
use Rattle.std.proofs.lemmas.Bool.Decides.{nat_tests}
use Rattle.std.specs.Char.{IsScalar}
use Rattle.std.specs.Char.Escape.{encode_utf16}
use lib.Utf8.{low_scalar}
use Rattle.cm_text.specs.Latin1.{HasLatin1, spell_latin1}

pub latin1_only_scalars : (c : ℕ) → HasLatin1 c → IsScalar c
latin1_only_scalars c below = low_scalar c (omega arith)

pub latin1_some_byte : (c : ℕ) → 0 < length (spell_latin1 c)
latin1_some_byte c = omega arith

pub latin1_one_spelling : (c d : ℕ) (x y : List ℕ) → spell_latin1 c ++ x ≡ spell_latin1 d ++ y
    → c ≡ d
latin1_one_spelling c d x y same = ap (λ xs. slice_index xs 0) same

pub latin1_units : (c : ℕ) → HasLatin1 c
    → (n : ℕ) × (length (spell_latin1 c) ≡ 1 * n) × (length (encode_utf16 c) ≤ n)
latin1_units c below = (1, omega arith, grind (arith, nat_tests))
