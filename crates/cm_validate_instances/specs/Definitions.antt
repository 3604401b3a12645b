-- The sketch of a definition, by the sketches of the types before it.
use Rattle.std.specs.Prelude.{Bool, true, false, ◌&&◌, ◌||◌, List, [], ◌∷◌, Option, Some, None}
use Rattle.std.specs.Prelude.{slice_get, codes, if◌then◌else◌}
use Rattle.std.specs.List.{list_all, list_any}
use Rattle.std.specs.Option.{option_and_then, option_map_or}
use Rattle.std.specs.Str.{bytes_eq}
use Rattle.cm_types.specs.declared.def_types.LabeledValType.{LabeledValType}
use Rattle.cm_types.specs.declared.def_types.ValType.{ValType}
use Rattle.cm_types.specs.declared.def_types.ValType.TheVariants as val_type
use Rattle.cm_types.specs.declared.resource.ResourceId.{ResourceId}
use Rattle.cm_types.specs.DefTypes.{DefValTypeTree, FuncTypeTree, primitive, record_of, variant_of}
use Rattle.cm_types.specs.DefTypes.{list_of, fixed_list_of, tuple_of, flags_of, enum_of, option_of}
use Rattle.cm_types.specs.DefTypes.{result_of, own_of, borrow_of}
use Rattle.cm_validate_instances.specs.declared.sketches.Sketch.{Sketch}
use Rattle.cm_validate_instances.specs.declared.sketches.Sketch.TheVariants as sketch
use Rattle.cm_validate_instances.specs.declared.sketches.FuncSketch.{FuncSketch}
use Rattle.cm_validate_instances.specs.declared.sketches.ValueSketch.{ValueSketch}
use Rattle.cm_validate_instances.specs.declared.sketches.ValueSketch.TheVariants as value_sketch
use Rattle.cm_validate_instances.specs.Sketches.{borrowed, holds_borrow, owned, sketch_holding}

-- ---- types where they are used

-- the value type that is sketched here
abbrev pub value_sketched : Sketch → Option ValueSketch
value_sketched (sketch.Value v) = Some v
value_sketched _ = None

-- a value type where it is used, if it names one
abbrev pub used : List Sketch → ValType → Option ValueSketch
used ss (val_type.Primitive p) = Some value_sketch.Plain
used ss (val_type.Index i) = option_and_then value_sketched (slice_get ss i)

-- whether it names one, and whether that one holds a borrow
abbrev pub is_used : List Sketch → ValType → Bool
is_used ss t = option_map_or (λ v. true) (used ss t) false

abbrev pub holds_used : List Sketch → ValType → Bool
holds_used ss t = option_map_or holds_borrow (used ss t) false

-- whether a payload or a result names one, or is left out; whether one that is there holds a borrow
abbrev pub is_payload_used : List Sketch → Option ValType → Bool
is_payload_used ss p = option_map_or (is_used ss) p true

abbrev pub payload_holds : List Sketch → Option ValType → Bool
payload_holds ss p = option_map_or (holds_used ss) p false

-- ---- value types

-- a type that is no handle, from whether each type in it is there, and whether one of them holds a
-- borrow
abbrev pub parts_sketch : Bool → Bool → Sketch
parts_sketch false borrow = sketch.Faulty
parts_sketch true borrow = sketch.Value (sketch_holding borrow)

-- a handle of what an index names
abbrev pub handle_sketch : (ResourceId → ValueSketch) → Option Sketch → Sketch
handle_sketch handle (Some (sketch.Resource r)) = sketch.Value (handle r)
handle_sketch handle _ = sketch.Faulty

-- a definition of a value type
abbrev pub value_def_sketch : List Sketch → DefValTypeTree → Sketch
value_def_sketch ss (primitive p) = sketch.Value value_sketch.Plain
value_def_sketch ss (record_of fs) =
    parts_sketch (list_all (λ f. is_used ss f.ty) fs) (list_any (λ f. holds_used ss f.ty) fs)
value_def_sketch ss (variant_of cs) =
    parts_sketch (list_all (λ c. is_payload_used ss c.payload) cs)
    (list_any (λ c. payload_holds ss c.payload) cs)
value_def_sketch ss (list_of t) = parts_sketch (is_used ss t) (holds_used ss t)
value_def_sketch ss (fixed_list_of t n) = parts_sketch (is_used ss t) (holds_used ss t)
value_def_sketch ss (tuple_of ts) =
    parts_sketch (list_all (is_used ss) ts) (list_any (holds_used ss) ts)
value_def_sketch ss (flags_of ls) = sketch.Value value_sketch.Plain
value_def_sketch ss (enum_of ls) = sketch.Value value_sketch.Plain
value_def_sketch ss (option_of t) = parts_sketch (is_used ss t) (holds_used ss t)
value_def_sketch ss (result_of ok error) =
    parts_sketch (is_payload_used ss ok && is_payload_used ss error)
    (payload_holds ss ok || payload_holds ss error)
value_def_sketch ss (own_of i) = handle_sketch value_sketch.Own (slice_get ss i)
value_def_sketch ss (borrow_of i) = handle_sketch value_sketch.Borrow (slice_get ss i)

-- ---- functions

-- whether each type that a function uses is a value type
abbrev pub are_used : List Sketch → FuncTypeTree → Bool
are_used ss f = list_all (λ p. is_used ss p.ty) f.params && is_payload_used ss f.result

-- the resource that the first of some parameters borrows as `self`
abbrev pub self_param : List Sketch → List LabeledValType → Option ResourceId
self_param ss [] = None
self_param ss (p ∷ ps) =
    if bytes_eq p.label (codes "self") then option_and_then borrowed (used ss p.ty) else None

-- the resource of which a result is an owned handle
abbrev pub result_owned : List Sketch → Option ValType → Option ResourceId
result_owned ss r = option_and_then owned (option_and_then (used ss) r)

abbrev pub func_sketched : List Sketch → FuncTypeTree → FuncSketch
func_sketched ss f =
    record { self_borrow = self_param ss f.params; own_result = result_owned ss f.result }

-- a definition of the type of a function
abbrev pub func_def_sketch : List Sketch → FuncTypeTree → Sketch
func_def_sketch ss f =
    if are_used ss f then sketch.Func (func_sketched ss f) else sketch.Faulty
