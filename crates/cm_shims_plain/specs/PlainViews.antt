-- What the code's types say, as plain records.
use Rattle.std.specs.Prelude.{ℕ, map, Result, Ok, Err}
use Rattle.cm_types.specs.DefTypes.{def_type_tree}
use Rattle.cm_binary_model.specs.Trees.{instance_tree, section_tree}
use Rattle.cm_shims_plain.specs.Trees.{shim_tree}
use Rattle.cm_shims_plain.specs.declared.fault.ItemFault.{ItemFault}
use Rattle.cm_shims_plain.specs.declared.fault.ShimReason.{ShimReason}
use Rattle.cm_shims_plain.specs.declared.plain.StayingImports.{StayingImports}
use Rattle.cm_shims_plain.specs.declared.plain.Instances.{Instances as GoneThrough}
use Rattle.cm_shims_plain.specs.declared.plain.Plain.{Plain as Going}
use Rattle.cm_shims_plain.specs.declared.stop.Stop.{Stop}
use Rattle.cm_shims_plain.specs.declared.stop.Stop.TheVariants as stops
use Rattle.cm_shims_plain.specs.Origins.{origin_of}
use Rattle.cm_shims_plain.specs.Plain.{Imports, Instances, Plain, item_fault}
use Rattle.cm_shims_plain.specs.Spaces.{types_of}

abbrev pub instances_of : GoneThrough → Instances
instances_of i = record {
  types = types_of i.types;
  made = map def_type_tree i.made.items;
  from = i.from.items;
  bytes = i.bytes;
  instances = map instance_tree i.instances.items;
  wants = i.wants.items;
}

abbrev pub imports_of : StayingImports → Imports
imports_of i = record { types = types_of i.types; items = i.items.items; from = i.from.items }

abbrev pub plain_of : Going → Plain
plain_of p = record {
  types = types_of p.types;
  shims = map shim_tree p.shims.items;
  bytes = p.bytes;
  sections = map section_tree p.sections.items;
  origins = map origin_of p.sources.items;
  wants = p.wants.items;
}

-- The outcome of an item, with its number where it is a fault.
abbrev pub at_item : {A : Type 0} → ℕ → Result A (Stop ShimReason) → Result A (Stop ItemFault)
at_item item (Ok x) = Ok x
at_item item (Err stops.Memory) = Err stops.Memory
at_item item (Err (stops.Fault reason)) = Err (stops.Fault (item_fault item reason))
