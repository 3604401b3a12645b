-- Texts found by marks. A place is marked with a number by the next number, and 0 marks none.
use Rattle.std.specs.Prelude.{◌≡◌, ◌+◌, ℕ, zero, suc, Bool, true, false, List, length}
use Rattle.std.specs.Prelude.{Option, Some, None, get_or, is_some, slice_get, if◌then◌else◌}
use Rattle.std.specs.Option.{option_map_or}
use Rattle.std.specs.Str.{bytes_eq}
use Rattle.cm_names.specs.Hash.{home_of}

-- whether a text is the one of a number
abbrev pub is_text : List (List ℕ) → List ℕ → ℕ → Bool
is_text texts text number = option_map_or (bytes_eq text) (slice_get texts number) false

-- the number that a mark stands for, if it stands for one
abbrev pub marked : ℕ → Option ℕ
marked zero = None
marked (suc number) = Some number

-- the number of a text, by the number that a place is marked with, or by the places behind it
abbrev pub found_at : List (List ℕ) → List ℕ → Option ℕ → Option ℕ → Option ℕ
found_at texts text None behind = None
found_at texts text (Some number) behind = if is_text texts text number then Some number else behind

-- the number of a text by the places from one on, no more than so many, and up to the first that is
-- not marked
abbrev pub found_from : List ℕ → List (List ℕ) → List ℕ → ℕ → ℕ → Option ℕ
found_from marks texts text place zero = None
found_from marks texts text place (suc more) = found_at texts text (marked (get_or marks place 0))
    (found_from marks texts text (place + 1) more)

-- how many places are looked at for a text
unfoldable pub window : ℕ
window = 16

-- the number of a text by the places from its home on
unfoldable pub found : List ℕ → List (List ℕ) → List ℕ → Option ℕ
found marks texts text = found_from marks texts text (home_of text (length marks)) window

-- what is found by some marks is found by others too
abbrev pub KeepsFound : List ℕ → List ℕ → Type 0
KeepsFound old new = (texts : List (List ℕ)) (text : List ℕ)
    → is_some (found old texts text) ≡ true → is_some (found new texts text) ≡ true

-- a text is found, whichever the texts are, where it is the one of this number
abbrev pub IsFound : List ℕ → List ℕ → ℕ → Type 0
IsFound marks text number = (texts : List (List ℕ)) → is_text texts text number ≡ true
    → is_some (found marks texts text) ≡ true

-- what of these texts is found by some marks is found by others too
abbrev pub KeepsFoundOf : List (List ℕ) → List ℕ → List ℕ → Type 0
KeepsFoundOf texts old new = (text : List ℕ)
    → is_some (found old texts text) ≡ true → is_some (found new texts text) ≡ true

-- the text of a number among these texts is found
abbrev pub IsFoundOf : List (List ℕ) → List ℕ → ℕ → Type 0
IsFoundOf texts marks number = (text : List ℕ) → is_text texts text number ≡ true
    → is_some (found marks texts text) ≡ true
