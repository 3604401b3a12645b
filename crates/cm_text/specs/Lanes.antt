-- What the kernels look at in units of UTF-16 (this project's own choice: these words are of
-- private contracts, and no public one).
use Rattle.std.specs.Prelude.{ℕ, List, [], ◌∷◌, if◌then◌else◌, ◌==◌, ◌||◌, Bool, nat_lt, nat_le}

-- the second byte of each unit
abbrev pub second_bytes : List ℕ → List ℕ
second_bytes [] = []
second_bytes (low ∷ []) = []
second_bytes (low ∷ high ∷ bytes) = high ∷ second_bytes bytes

-- the first byte of a unit whose second is 0, and 0xFF for any other unit
abbrev pub mark : ℕ → ℕ → ℕ
mark low high = if high == 0 then low else 0xFF

-- the second byte of a unit that is no surrogate
abbrev pub is_plain : ℕ → Bool
is_plain high = nat_lt high 0xD8 || nat_le 0xE0 high

-- a byte below 0xE0, and 0 for any other
abbrev pub below_e0 : ℕ → ℕ
below_e0 x = if nat_le 0xE0 x then 0 else x
