-- Texts that are cut behind so many bytes (this project's own choice).
use Rattle.std.specs.Prelude.{◌≡◌, ◌⊎◌, ◌<◌, ◌≤◌, ◌++◌, ℕ, codes, true, false, List, length, take}
use Rattle.std.specs.String.{string_bytes}
use Rattle.cm_hux_values.specs.declared.cutting.Said.{Said}

-- a text as it is, where it has room; else a front of it that has, with a mark behind it
abbrev pub IsCutTo : ℕ → List ℕ → Said → Type 0
IsCutTo room text said =
    ((said.is_cut ≡ false) × (length text ≤ room) × (string_bytes said.text ≡ text))
    ⊎ ((said.is_cut ≡ true) × (room < length text)
    × ((n : ℕ) × (n ≤ room) × (string_bytes said.text ≡ take n text ++ codes "..")))
