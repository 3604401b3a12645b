-- Regions of a memory (that those of the parts of a value are disjoint is this project's own
-- choice).
use Rattle.std.specs.Prelude.{ℕ, ⊤, ◌⊎◌, List, [], ◌∷◌}
use Rattle.cm_abi_model.specs.Regions.{IsIn}
use Rattle.cm_abi_model.specs.declared.region.Region.{Region}

-- an address is in one of the regions
abbrev pub IsInOne : List Region → ℕ → Type 0
IsInOne [] a = ⊥
IsInOne (r ∷ rs) a = IsIn r.at r.size a ⊎ IsInOne rs a

-- no address is in two of the regions; an empty one has no address
abbrev pub AreDisjoint : List Region → Type 0
AreDisjoint [] = ⊤
AreDisjoint (r ∷ rs) = ((a : ℕ) → IsIn r.at r.size a → IsInOne rs a → ⊥) × AreDisjoint rs
