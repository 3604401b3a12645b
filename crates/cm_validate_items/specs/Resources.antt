-- The resources of a component, by their numbers.
use Rattle.std.specs.Prelude.{List}
use Rattle.cm_validate_model.specs.Definitions.{ResourceDef}
use Rattle.cm_validate_items.specs.Ranges.{range_defs}
use Rattle.cm_validate_items.specs.declared.ranges.Resources.{Resources}

-- the resources of a component in the order of their numbers
abbrev pub resources_in : Resources → List ResourceDef
resources_in r = range_defs r.ranges.items
