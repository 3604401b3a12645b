-- The resources of a component, in ranges (Explainer.md, "Resource Types").
use Rattle.std.specs.Prelude.{◌+◌, ℕ, List, [], ◌∷◌, ◌++◌, map, length, Option, Some, None}
use Rattle.std.specs.Prelude.{nat_le, if◌then◌else◌}
use Rattle.std.specs.Option.{option_or}
use Rattle.cm_validate_model.specs.Definitions.{ResourceDef, defined, brought}
use Rattle.cm_validate_items.specs.Items.{fresh_of}
use Rattle.cm_validate_items.specs.InstanceTypes.{instance_type_of}
use Rattle.cm_validate_items.specs.declared.ranges.Range.{Range}
use Rattle.cm_validate_items.specs.declared.ranges.Source.{Source}
use Rattle.cm_validate_items.specs.declared.ranges.Source.TheVariants as source
use Rattle.cm_validate_items.specs.declared.ranges.Resource.{Resource}
use Rattle.cm_validate_items.specs.declared.ranges.Resource.TheVariants as resource

-- what a resource is
abbrev pub resource_def : Resource → ResourceDef
resource_def (resource.Defined destructor) = defined destructor
resource_def (resource.Brought import item) = brought import item

-- those of a range
abbrev pub source_defs : Source → List ResourceDef
source_defs (source.Defined destructor) = defined destructor ∷ []
source_defs (source.Brought import items) =
    map (brought import) (fresh_of (instance_type_of items.value))

-- those of ranges
abbrev pub range_defs : List Range → List ResourceDef
range_defs [] = []
range_defs (r ∷ rs) = source_defs r.source ++ range_defs rs

-- the number of the first resource of each range, where they follow one another from a number on
abbrev pub starts_from : ℕ → List Range → List ℕ
starts_from next [] = []
starts_from next (r ∷ rs) = next ∷ starts_from (next + length (source_defs r.source)) rs

-- of the ranges the one that begins last at or before a number
abbrev pub begun : List Range → ℕ → Option Range
begun [] n = None
begun (r ∷ rs) n = option_or (begun rs n) (if nat_le r.first n then Some r else None)
