-- Numbers of 64 bits in all their bytes.
use Rattle.std.proofs.Common.{◌≡◌, ℕ, ◌<◌, ◌^◌, ◌%◌}
use Rattle.std.proofs.Math.Nat.{mod-eq_of_lt}

pub whole : (n : ℕ) → n < 2 ^ 64 → n % 2 ^ 64 ≡ n
whole n small = mod-eq_of_lt small

pub ruleset slots = (whole)
