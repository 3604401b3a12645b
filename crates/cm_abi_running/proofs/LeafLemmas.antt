-- Numbers of leaves.
use Rattle.std.proofs.Common.{◌≡◌, ℕ, zero, suc, ◌<◌, ◌^◌, ◌-◌, arith}
use Rattle.std.specs.Prelude.{neg_ℤ, pos}
use Rattle.cm_abi_model.specs.Stores.{from_signed}
use Rattle.cm_lemmas.proofs.Numbers.{whole_word}

pub ruleset flags = (whole_word)

pub below_zero : (n : ℕ) → 0 < n → from_signed 8 (neg_ℤ (pos n)) ≡ 2 ^ 64 - n
below_zero zero lt = absurd (omega arith)
below_zero (suc n) lt = omega arith

pub ruleset extended = (below_zero)
