-- Regions inside a memory (CanonicalABI.md, "Storing" of strings and lists).
use Rattle.std.specs.Prelude.{ℕ, ◌+◌, ◌≤◌, ⊤, List, [], ◌∷◌}
use Rattle.cm_abi_model.specs.declared.encoding.StringEncoding.{StringEncoding}
use Rattle.cm_abi_model.specs.Parts.{Part}
use Rattle.cm_abi_model.specs.Regions.{part_size}
use Rattle.cm_abi_model.specs.Stores.{Given, place_of}

-- the regions of parts, from the one of this number on, end inside a memory of so many bytes
abbrev pub AreInside : StringEncoding → ℕ → Given → ℕ → List Part → Type 0
AreInside target n g k [] = ⊤
AreInside target n g k (part ∷ parts) =
    (place_of g k + part_size target part ≤ n) × AreInside target n g (k + 1) parts
