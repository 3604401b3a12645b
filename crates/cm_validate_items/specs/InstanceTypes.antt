-- The types of instances.
use Rattle.cm_types_arena.specs.declared.instances.InstanceType.{InstanceType}
use Rattle.cm_validate_items.specs.declared.items.InstanceItems.{InstanceItems}

-- the type whose items these are
abbrev pub instance_type_of : InstanceItems → InstanceType
instance_type_of i = i.ty.value
