-- Numbers that core values become.
use Rattle.std.proofs.Common.{◌≡◌, ℕ, zero, suc, pos, ◌+◌, ◌*◌, ◌-◌, ◌%◌, ◌^◌, ◌<◌, ◌≤◌, ◌⊎◌, inl, inr, refl, ap, ◌∙◌, arith}
use Rattle.std.specs.Prelude.{nat_lt, if◌then◌else◌, neg_ℤ}
use Rattle.std.proofs.lemmas.Bool.{cases_lt, lt-ltb, le-ltb}
use Rattle.cm_abi_model.specs.Numbers.{as_signed}
use Rattle.cm_abi_model.specs.Stores.{from_signed}
use Rattle.cm_lemmas.proofs.Numbers.{whole_word}

-- labels that fill a number of 32 bits, or more
pub ruleset flags = (whole_word)

from_negative : (bytes m : ℕ) → 0 < m → from_signed bytes (neg_ℤ (pos m)) ≡ 2 ^ (8 * bytes) - m
from_negative bytes zero some = absurd (omega (arith, some))
from_negative bytes (suc m) some = ap (λ n. 2 ^ (8 * bytes) - n) {x = m + 1} {y = suc m} (omega arith)

-- a number of fewer bytes read with its sign, in two's complement of 32 bits
widened : (bytes half all n : ℕ) → all ≡ half + half → 2 ^ (8 * bytes - 1) ≡ half → 2 ^ (8 * bytes) ≡ all → all ≤ 2 ^ 32 → n < all
    → from_signed 4 (as_signed bytes n) ≡ (if nat_lt n half then n else n + (2 ^ 32 - all))
widened bytes half all n e h a small lt = rw (h, a) (go (cases_lt n half))
  where
    go : (n < half) ⊎ (half ≤ n) → from_signed 4 (if nat_lt n half then pos n else neg_ℤ (pos (all - n))) ≡ (if nat_lt n half then n else n + (2 ^ 32 - all))
    go (inl low) = rw (lt-ltb n half low) refl
    go (inr high) = rw (le-ltb n half high) (from_negative 4 (all - n) (omega (arith, lt)) ∙ omega (arith, lt, small))

pub widened_8 : (n : ℕ) → from_signed 4 (as_signed 1 (n % 256)) ≡ (if nat_lt (n % 256) 128 then n % 256 else n % 256 + 4294967040)
widened_8 n = widened 1 128 256 (n % 256) refl refl refl (omega arith) (omega arith)

pub widened_16 : (n : ℕ) → from_signed 4 (as_signed 2 (n % 65536)) ≡ (if nat_lt (n % 65536) 32768 then n % 65536 else n % 65536 + 4294901760)
widened_16 n = widened 2 32768 65536 (n % 65536) refl refl refl (omega arith) (omega arith)

-- a number read with its sign, in two's complement of as many bits
pub signed_again : (bytes half all n : ℕ) → all ≡ half + half → 2 ^ (8 * bytes - 1) ≡ half → 2 ^ (8 * bytes) ≡ all → n < all
    → from_signed bytes (as_signed bytes n) ≡ n
signed_again bytes half all n e h a lt = rw (h, a) (go (cases_lt n half))
  where
    go : (n < half) ⊎ (half ≤ n) → from_signed bytes (if nat_lt n half then pos n else neg_ℤ (pos (all - n))) ≡ n
    go (inl low) = rw (lt-ltb n half low) refl
    go (inr high) = rw (le-ltb n half high) (from_negative bytes (all - n) (omega (arith, lt)) ∙ omega (arith, lt, a))
