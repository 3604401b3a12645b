-- What was found in a list, seen from the places of the list.
use Rattle.std.specs.Prelude.{ℕ, ◌+◌, ◌==◌, Bool, false, List, [], ◌∷◌, Option, Some, None}
use Rattle.std.specs.Prelude.{if◌then◌else◌}

-- whether what was found is this place
abbrev pub is_place : ℕ → Option ℕ → Bool
is_place place None = false
is_place place (Some found) = place == found

-- the places at which another place was found, or none; the first is at this place
abbrev pub repeats_from : ℕ → List (Option ℕ) → List ℕ
repeats_from place [] = []
repeats_from place (f ∷ fs) =
    if is_place place f then repeats_from (place + 1) fs
    else place ∷ repeats_from (place + 1) fs
