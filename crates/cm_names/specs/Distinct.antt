-- Lists of texts.
use Rattle.std.specs.Prelude.{◌≡◌, ℕ, List, Some, slice_get}

-- each text is there once
abbrev pub AreDistinct : List (List ℕ) → Type 0
AreDistinct texts = (text : List ℕ) (i j : ℕ) → slice_get texts i ≡ Some text
    → slice_get texts j ≡ Some text → i ≡ j
