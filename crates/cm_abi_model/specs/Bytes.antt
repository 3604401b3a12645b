-- Numbers in bytes, in the standard's words (CanonicalABI.md, "Loading" and "Storing": `int` from
-- and to bytes, "little", signed or not).
use Rattle.std.specs.Prelude.{◌≡◌, ℕ, ℤ, pos, neg_ℤ, ◌+◌, ◌-◌, ◌/◌, ◌%◌, ◌^◌, ◌<◌}
use Rattle.std.specs.Prelude.{◌⊎◌, ◌≤ℤ◌, ◌<ℤ◌, ◌+ℤ◌, List, slice_index}

-- byte i of a number, from the lowest
abbrev pub byte_of : ℕ → ℕ → ℕ
byte_of n i = n / 256 ^ i % 256

-- bit i of a number, from the lowest
abbrev pub bit_of : ℕ → ℕ → ℕ
bit_of n i = n / 2 ^ i % 2

-- memory is bytes
abbrev pub AreBytes : List ℕ → Type 0
AreBytes memory = (at : ℕ) → slice_index memory at < 256

-- a number stands at an address in so many bytes, the lowest first, and no more of it
pub record StandsAt (memory : List ℕ) (at bytes n : ℕ) : Type 0 where
  pub below : n < 256 ^ bytes
  pub each : (i : ℕ) → i < bytes → slice_index memory (at + i) ≡ byte_of n i

-- A number is what a signed one is in two's complement of so many bits: that one itself, or more by
-- 2 to the number of bits where it is below 0. It is one of those that so many bits have.
pub record IsTwosComplement (bits n : ℕ) (z : ℤ) : Type 0 where
  pub lowest : neg_ℤ (pos (2 ^ (bits - 1))) ≤ℤ z
  pub highest : z <ℤ pos (2 ^ (bits - 1))
  pub same : (pos n ≡ z) ⊎ (pos n ≡ z +ℤ pos (2 ^ bits))
