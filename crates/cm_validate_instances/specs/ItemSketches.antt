-- What the rules on names need to know of an item (this project's own choice).
use Rattle.std.specs.Prelude.{ℕ, List, Option, Some, None}
use Rattle.cm_types.specs.Signatures.{ItemTy, NamedItem, func_item, equal_type, equal_resource}
use Rattle.cm_types.specs.Signatures.{fresh_resource}
use Rattle.cm_types.specs.declared.resource.ResourceId.{ResourceId}
use Rattle.cm_validate_instances.specs.Sketches.{sketch_func}
use Rattle.cm_validate_instances.specs.declared.item_sketches.ItemSketch.{ItemSketch}
use Rattle.cm_validate_instances.specs.declared.item_sketches.ItemSketch.TheVariants as item_sketch
use Rattle.cm_validate_instances.specs.declared.item_sketches.NamedSketch.{NamedSketch}

-- the sketch of an item
abbrev pub sketch_item : ItemTy → ItemSketch
sketch_item (func_item f) = item_sketch.Func (sketch_func f)
sketch_item (equal_type t) = item_sketch.Type
sketch_item (equal_resource r) = item_sketch.Resource r
sketch_item (fresh_resource r) = item_sketch.Resource r

-- the resource that it is
abbrev pub resource_sketched : ItemSketch → Option ResourceId
resource_sketched (item_sketch.Resource r) = Some r
resource_sketched _ = None

-- an item by its name and its sketch: of an item, and as the code has it
abbrev pub SketchedItem : Type 0
SketchedItem = List ℕ × ItemSketch

abbrev pub named_sketch : NamedItem → SketchedItem
named_sketch i = (i.name, sketch_item i.desc)

abbrev pub sketch_named : NamedSketch → SketchedItem
sketch_named i = (i.name, i.item)
