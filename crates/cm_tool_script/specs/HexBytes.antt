-- The bytes that a text of hex digits spells (this project's own choice).
use Rattle.std.specs.Prelude.{◌≡◌, ◌≢◌, ℕ, ◌+◌, ◌*◌, ◌<◌, ◌≤◌, ◌⊎◌, List, [], ◌∷◌, codes}

-- This character is the hex digit of this value below 16: `0` to `9` have the codes 48 to 57,
-- `A` to `F` 65 to 70, and `a` to `f` 97 to 102.
abbrev pub IsDigit : ℕ → ℕ → Type 0
IsDigit c value =
    ((value < 10) × (c ≡ 48 + value))
    ⊎ ((10 ≤ value) × (value < 16) × ((c ≡ 55 + value) ⊎ (c ≡ 87 + value)))

-- These characters are these bytes, two digits a byte, the high one first.
abbrev pub ArePairs : List ℕ → List ℕ → Type 0
ArePairs [] [] = Unit {0}
ArePairs [] (b ∷ bytes) = ⊥
ArePairs (c ∷ []) bytes = ⊥
ArePairs (c ∷ d ∷ text) [] = ⊥
ArePairs (c ∷ d ∷ text) (b ∷ bytes) =
    ((high low : ℕ) × IsDigit c high × IsDigit d low × (b ≡ 16 * high + low)) × ArePairs text bytes

-- A text spells bytes: `-` none, and pairs of digits one or more.
abbrev pub Spells : List ℕ → List ℕ → Type 0
Spells text bytes = ((text ≡ codes "-") × (bytes ≡ [])) ⊎ ((bytes ≢ []) × ArePairs text bytes)
