-- Resources, and what stands for them.
use Rattle.std.specs.Prelude.{◌==◌, ◌&&◌, Bool, List, slice_index_or}
use Rattle.cm_types.specs.declared.resource.ResourceId.{ResourceId}

-- whether two are the same resource
abbrev pub same_resource : ResourceId → ResourceId → Bool
same_resource r s = (r.component == s.component) && (r.number == s.number)

-- what stands for a resource: the member of the list at its number, or itself where there is none
abbrev pub resolve : List ResourceId → ResourceId → ResourceId
resolve resources r = slice_index_or resources r.number r
