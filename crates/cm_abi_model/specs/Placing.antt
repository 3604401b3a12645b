-- Where the parts of records stand (CanonicalABI.md, "Storing" of lists and strings).
use Rattle.std.specs.Prelude.{ℕ, List, [], ◌∷◌}
use Rattle.cm_abi_model.specs.declared.region.Region.{Region}
use Rattle.cm_abi_model.specs.declared.record.PartRecord.{PartRecord}

-- the regions of the parts of records, each at its place
abbrev pub regions_at : List PartRecord → List ℕ → List Region
regions_at [] places = []
regions_at (r ∷ rs) [] = []
regions_at (r ∷ rs) (at ∷ places) = record { at = at; size = r.size } ∷ regions_at rs places
