-- Numbers in LEB128: which bytes spell a number, and what is wrong with bytes that do not
-- (Binary.md by way of the core specification, "Integers").
use Rattle.cm_leb.specs.declared.fault.LebFault.{LebFault}
use Rattle.cm_leb.specs.declared.fault.LebFault.TheVariants.{BadLastBits, TooLong}
use Rattle.cm_leb.specs.declared.fault.LebFault.TheVariants.{Truncated}
use Rattle.std.specs.Prelude.{◌≡◌, ℕ, ◌+◌, ◌-◌, ◌*◌, ◌/◌, ◌%◌, ◌^◌, ◌<◌, ◌≤◌, List, [], ◌∷◌, ◌++◌}
use Rattle.std.specs.Prelude.{length, take, slice_range, ℤ, pos, neg_ℤ, ◌-ℤ◌, ◌≤ℤ◌, ◌<ℤ◌, nat_lt}
use Rattle.std.specs.Prelude.{if◌then◌else◌}

-- The bytes of one number: each but the last has its top bit set.
abbrev pub IsGroup : List ℕ → Type 0
IsGroup [] = ⊥
IsGroup (b ∷ []) = b < 128
IsGroup (b ∷ c ∷ bytes) = (128 ≤ b) × (b < 256) × IsGroup (c ∷ bytes)

-- The low seven bits of the bytes as digits in base 128, the least first.
abbrev pub digits_value : List ℕ → ℕ
digits_value [] = 0
digits_value (b ∷ bytes) = b % 128 + 128 * digits_value bytes

-- The most bytes that a number of so many bits takes: a seventh of the bits, rounded up.
abbrev pub greatest_length : ℕ → ℕ
greatest_length bits = (bits + 6) / 7

-- The bytes spell n, a number of so many bits without a sign. A spelling need not be the shortest.
pub record SpellsUnsigned (bits : ℕ) (bytes : List ℕ) (n : ℕ) : Type 0 where
  pub group : IsGroup bytes
  pub short : length bytes ≤ greatest_length bits
  pub digits : n ≡ digits_value bytes
  pub fits : n < 2 ^ bits

-- What v stands for in two's complement of so many bits.
abbrev pub two_complement : ℕ → ℕ → ℤ
two_complement bits v = if nat_lt v (2 ^ (bits - 1)) then pos v else pos v -ℤ pos (2 ^ bits)

-- z is a number of so many bits with a sign.
pub record IsWithin (bits : ℕ) (z : ℤ) : Type 0 where
  pub low : neg_ℤ (pos (2 ^ (bits - 1))) ≤ℤ z
  pub high : z <ℤ pos (2 ^ (bits - 1))

-- The bytes spell z, a number of so many bits with a sign: the digits stand for it in two's
-- complement.
pub record SpellsSigned (bits : ℕ) (bytes : List ℕ) (z : ℤ) : Type 0 where
  pub group : IsGroup bytes
  pub short : length bytes ≤ greatest_length bits
  pub digits : z ≡ two_complement (7 * length bytes) (digits_value bytes)
  pub fits : IsWithin bits z

-- Each byte says that another one follows.
abbrev pub AllGoOn : List ℕ → Type 0
AllGoOn [] = Unit {0}
AllGoOn (b ∷ bytes) = (128 ≤ b) × AllGoOn bytes

-- The bytes end before their first number does.
abbrev pub IsTruncated : ℕ → List ℕ → Type 0
IsTruncated bits bytes = (length bytes < greatest_length bits) × AllGoOn bytes

-- The byte at the greatest length still says that another one follows.
abbrev pub IsTooLong : ℕ → List ℕ → Type 0
IsTooLong bits bytes =
    (greatest_length bits ≤ length bytes) × AllGoOn (take (greatest_length bits) bytes)

-- A number's bytes stand in front, and their digits are no number of so many bits without a sign.
pub record HasBadUnsignedBits (bits : ℕ) (bytes : List ℕ) : Type 0 where
  pub front : List ℕ
  pub rest : List ℕ
  pub parts : bytes ≡ front ++ rest
  pub group : IsGroup front
  pub short : length front ≤ greatest_length bits
  pub outside : 2 ^ bits ≤ digits_value front

-- A number's bytes stand in front, and their digits are no number of so many bits with a sign.
pub record HasBadSignedBits (bits : ℕ) (bytes : List ℕ) : Type 0 where
  pub front : List ℕ
  pub rest : List ℕ
  pub parts : bytes ≡ front ++ rest
  pub group : IsGroup front
  pub short : length front ≤ greatest_length bits
  pub outside : ¬ IsWithin bits (two_complement (7 * length front) (digits_value front))

-- What is wrong with bytes that begin with no number of so many bits without a sign.
abbrev pub IsUnsignedFault : ℕ → LebFault → List ℕ → Type 0
IsUnsignedFault bits Truncated bytes = IsTruncated bits bytes
IsUnsignedFault bits TooLong bytes = IsTooLong bits bytes
IsUnsignedFault bits BadLastBits bytes = HasBadUnsignedBits bits bytes

-- What is wrong with bytes that begin with no number of so many bits with a sign.
abbrev pub IsSignedFault : ℕ → LebFault → List ℕ → Type 0
IsSignedFault bits Truncated bytes = IsTruncated bits bytes
IsSignedFault bits TooLong bytes = IsTooLong bits bytes
IsSignedFault bits BadLastBits bytes = HasBadSignedBits bits bytes

-- The bytes from at up to end are there and spell the number without a sign.
pub record StandsUnsigned (bits : ℕ) (bytes : List ℕ) (at n end : ℕ) : Type 0 where
  pub starts : at ≤ end
  pub ends : end ≤ length bytes
  pub spells : SpellsUnsigned bits (slice_range bytes at end) n

-- The bytes from at up to end are there and spell the number with a sign.
pub record StandsSigned (bits : ℕ) (bytes : List ℕ) (at : ℕ) (z : ℤ) (end : ℕ) : Type 0 where
  pub starts : at ≤ end
  pub ends : end ≤ length bytes
  pub spells : SpellsSigned bits (slice_range bytes at end) z

-- The bytes are a spelling of a number without a sign, and the rest.
pub record BeginsUnsigned (bits : ℕ) (bytes : List ℕ) (n : ℕ) (rest : List ℕ) : Type 0 where
  pub front : List ℕ
  pub spells : SpellsUnsigned bits front n
  pub parts : bytes ≡ front ++ rest

-- The bytes are a spelling of a number with a sign, and the rest.
pub record BeginsSigned (bits : ℕ) (bytes : List ℕ) (z : ℤ) (rest : List ℕ) : Type 0 where
  pub front : List ℕ
  pub spells : SpellsSigned bits front z
  pub parts : bytes ≡ front ++ rest

-- The number by which a fault is known, this project's own.
abbrev pub fault_number : LebFault → ℕ
fault_number Truncated = 1
fault_number TooLong = 2
fault_number BadLastBits = 3
