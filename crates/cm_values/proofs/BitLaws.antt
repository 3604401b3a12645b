-- The bits of flags.
use Rattle.std.proofs.Common.{◌≡◌, ℕ, ◌≤◌, ◌<◌, ◌^◌}
use Rattle.std.specs.Int.{bit_at}
use Rattle.std.proofs.lemmas.Nat.Bits.{bit_at_above, shr_and_one}

pub no_bit : (n i : ℕ) → n < 2 ^ 32 → 32 ≤ i → bit_at n i ≡ 0
no_bit n i small far = bit_at_above n 32 i small far

pub ruleset bit_laws = (no_bit, shr_and_one)
