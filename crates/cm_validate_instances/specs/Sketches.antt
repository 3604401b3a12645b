-- What the rules on the types of instances need to know of a type (this project's own choice).
use Rattle.std.specs.Prelude.{Bool, true, false, Option, Some, None, codes, if◌then◌else◌}
use Rattle.std.specs.Option.{option_and_then, option_map}
use Rattle.std.specs.Str.{bytes_eq}
use Rattle.cm_types.specs.declared.resource.ResourceId.{ResourceId}
use Rattle.cm_types.specs.Holds.{holds, is_borrow}
use Rattle.cm_types.specs.Types.{Ty, Fields, FuncTy, own, borrow, no_fields, field}
use Rattle.cm_types_arena.specs.Replaced.{Standing}
use Rattle.cm_validate_model.specs.Definitions.{TypeDef, value, func_type, resource, instance_type}
use Rattle.cm_validate_model.specs.Definitions.{faulty}
use Rattle.cm_validate_model.specs.Scopes.{resource_id}
use Rattle.cm_validate_model.specs.declared.sorts.TypeSort.{TypeSort}
use Rattle.cm_validate_model.specs.declared.sorts.TypeSort.TheVariants as sort
use Rattle.cm_validate_instances.specs.declared.sketches.Sketch.{Sketch}
use Rattle.cm_validate_instances.specs.declared.sketches.Sketch.TheVariants as sketch
use Rattle.cm_validate_instances.specs.declared.sketches.FuncSketch.{FuncSketch}
use Rattle.cm_validate_instances.specs.declared.sketches.ValueSketch.{ValueSketch}
use Rattle.cm_validate_instances.specs.declared.sketches.ValueSketch.TheVariants as value_sketch

-- ---- sketches of types

-- of a type that is no handle, from whether it holds a borrow
abbrev pub sketch_holding : Bool → ValueSketch
sketch_holding true = value_sketch.HoldsBorrow
sketch_holding false = value_sketch.Plain

-- the sketch of a value type
abbrev pub sketch_value : Ty → ValueSketch
sketch_value (own r) = value_sketch.Own r
sketch_value (borrow r) = value_sketch.Borrow r
sketch_value t = sketch_holding (holds is_borrow t)

-- ---- what they tell

-- whether the type is a borrow or holds one
abbrev pub holds_borrow : ValueSketch → Bool
holds_borrow value_sketch.Plain = false
holds_borrow (value_sketch.Own r) = false
holds_borrow (value_sketch.Borrow r) = true
holds_borrow value_sketch.HoldsBorrow = true

-- the resource of which the type is a borrow, and that of which it is an owned handle
abbrev pub borrowed : ValueSketch → Option ResourceId
borrowed (value_sketch.Borrow r) = Some r
borrowed _ = None

abbrev pub owned : ValueSketch → Option ResourceId
owned (value_sketch.Own r) = Some r
owned _ = None

-- ---- of functions

-- the resource that a type borrows, and that of which it is an owned handle
abbrev pub resource_borrowed : Ty → Option ResourceId
resource_borrowed (borrow r) = Some r
resource_borrowed _ = None

abbrev pub resource_owned : Ty → Option ResourceId
resource_owned (own r) = Some r
resource_owned _ = None

-- the resource that the first parameter borrows as `self`
abbrev pub self_borrow : Fields → Option ResourceId
self_borrow no_fields = None
self_borrow (field label ty fs) =
    if bytes_eq label (codes "self") then resource_borrowed ty else None

-- the resource of which the result is an owned handle
abbrev pub own_result : Option Ty → Option ResourceId
own_result t = option_and_then resource_owned t

abbrev pub sketch_func : FuncTy → FuncSketch
sketch_func f =
    record { self_borrow = self_borrow f.params; own_result = own_result f.result }

-- ---- with each resource replaced

abbrev pub value_replaced : Standing → ValueSketch → ValueSketch
value_replaced s (value_sketch.Own r) = value_sketch.Own (s r)
value_replaced s (value_sketch.Borrow r) = value_sketch.Borrow (s r)
value_replaced s v = v

abbrev pub func_replaced : Standing → FuncSketch → FuncSketch
func_replaced s f =
    record {
      self_borrow = option_map s f.self_borrow;
      own_result = option_map s f.own_result;
    }

-- ---- of what an index stands for

abbrev pub sketch_of : TypeDef → Sketch
sketch_of (value t) = sketch.Value (sketch_value t)
sketch_of (func_type f) = sketch.Func (sketch_func f)
sketch_of (resource n) = sketch.Resource (resource_id n)
sketch_of (instance_type i) = sketch.Instance
sketch_of faulty = sketch.Faulty

-- the sort of a sketched type
abbrev pub sketch_sort : Sketch → TypeSort
sketch_sort (sketch.Value v) = sort.Value
sketch_sort (sketch.Func f) = sort.Func
sketch_sort (sketch.Resource r) = sort.Resource
sketch_sort sketch.Instance = sort.Instance
sketch_sort sketch.Faulty = sort.Faulty
