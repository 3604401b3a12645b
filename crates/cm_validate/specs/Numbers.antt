-- The numbers of imports and exports, by their places (Explainer.md, "Index Spaces"): those that
-- are instances of one type, and those that are one instance, have one number.
use Rattle.std.specs.Prelude.{◌≡◌, ℕ, ◌<◌, List, Option, Some, length, slice_get}

-- these are the numbers that stand at the first places, so many
pub record AreNumbers (number_at : ℕ → Option ℕ) (count : ℕ) (numbers : List (Option ℕ))
    : Type 0 where
  pub count_is : length numbers ≡ count
  pub each : (place : ℕ) → place < count → slice_get numbers place ≡ Some (number_at place)
