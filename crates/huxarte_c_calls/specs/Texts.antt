-- Texts in a buffer (this project's own choice).
use Rattle.std.specs.Prelude.{◌≡◌, ℕ, List, ◌++◌, drop, length, take}

-- a buffer into which a text, or a list of something else, was written: it begins with as much of
-- it as there is room for, and what stood behind that stays
abbrev pub written : {A : Type 0} → List A → List A → List A
written room text = take (length room) text ++ drop (length text) room

-- some text of so many bytes was written into a buffer
abbrev pub IsText : List ℕ → ℕ → List ℕ → Type 0
IsText room wanted after =
    (text : List ℕ) × (length text ≡ wanted) × (after ≡ written room text)
