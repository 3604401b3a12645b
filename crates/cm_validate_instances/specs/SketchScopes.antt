-- The declarations of the type of an instance, by sketches of the types that they name.
use Rattle.std.specs.Prelude.{ℕ, zero, suc, ◌+◌, List, [], ◌∷◌, ◌++◌, Option, Some, None, map}
use Rattle.std.specs.Prelude.{slice_get, option_to_list, unwrap_or}
use Rattle.std.specs.Option.{option_map, option_and_then}
use Rattle.cm_types.specs.DefTypes.{DeclarationTree, type_decl, outer_type_decl, export_decl}
use Rattle.cm_types.specs.DefTypes.{DeclaredTypeTree, declared_value, declared_func}
use Rattle.cm_types.specs.declared.def_types.ExportDesc.{ExportDesc}
use Rattle.cm_types.specs.declared.def_types.ExportDesc.TheVariants as desc
use Rattle.cm_types.specs.declared.def_types.TypeBound.TheVariants as bound
use Rattle.cm_validate_model.specs.declared.fault.ValidReason.{ValidReason}
use Rattle.cm_validate_model.specs.Declarations.{Scope, export_desc_broken}
use Rattle.cm_validate_model.specs.Definitions.{TypeDef}
use Rattle.cm_validate_model.specs.Reasons.{found}
use Rattle.cm_validate_model.specs.Scopes.{resource_id}
use Rattle.cm_validate_model.specs.declared.sorts.TypeSort.{TypeSort}
use Rattle.cm_validate_instances.specs.declared.item_sketches.ItemSketch.{ItemSketch}
use Rattle.cm_validate_instances.specs.declared.item_sketches.ItemSketch.TheVariants as item_sketch
use Rattle.cm_validate_instances.specs.ItemSketches.{SketchedItem, named_sketch}
use Rattle.cm_validate_instances.specs.declared.sketches.Sketch.{Sketch}
use Rattle.cm_validate_instances.specs.declared.sketches.Sketch.TheVariants as sketch
use Rattle.cm_validate_instances.specs.Definitions.{func_def_sketch, value_def_sketch}
use Rattle.cm_validate_instances.specs.Faults.{func_def_faults, value_def_faults}
use Rattle.cm_validate_instances.specs.Sketches.{sketch_of, sketch_sort}

-- what is kept of a scope: sketches of its types and of its items, and the next resource's number
pub record SketchScope : Type 0 where
  pub types : List Sketch
  pub next : ℕ
  pub items : List SketchedItem

abbrev pub sketch_scope : Scope → SketchScope
sketch_scope s =
    record { types = map sketch_of s.types; next = s.next; items = map named_sketch s.items }

-- at the first declaration, where the next resource has this number
abbrev pub sketches_before : ℕ → SketchScope
sketches_before next = record { types = []; next = next; items = [] }

-- the sorts of its types
abbrev pub sketch_sorts : SketchScope → List TypeSort
sketch_sorts s = map sketch_sort s.types

-- the sketch of the type that an outer alias names, in a component with these types
abbrev pub outer_sketched : List TypeDef → SketchScope → ℕ → ℕ → Option Sketch
outer_sketched around s zero index = slice_get s.types index
outer_sketched around s (suc zero) index = option_map sketch_of (slice_get around index)
outer_sketched around s (suc (suc n)) index = None

-- ---- what a declaration adds

-- the item that a function of this type is, and that a type is
abbrev pub func_item_in : Sketch → Option ItemSketch
func_item_in (sketch.Func f) = Some (item_sketch.Func f)
func_item_in _ = None

abbrev pub type_item_in : Sketch → Option ItemSketch
type_item_in (sketch.Value v) = Some item_sketch.Type
type_item_in (sketch.Resource r) = Some (item_sketch.Resource r)
type_item_in _ = None

-- one more type, and one more item, if there is one
abbrev pub sketch_more : SketchScope → Sketch → SketchScope
sketch_more s t = record s { types = s.types ++ t ∷ [] }

abbrev pub sketch_item_more : SketchScope → List ℕ → Option ItemSketch → SketchScope
sketch_item_more s name d =
    record s { items = s.items ++ option_to_list (option_map (λ i. (name, i)) d) }

-- an export of a type that is known
abbrev pub sketch_equal : SketchScope → List ℕ → Sketch → SketchScope
sketch_equal s name t = sketch_more (sketch_item_more s name (type_item_in t)) t

-- an export of a resource of the instance's own
abbrev pub sketch_fresh : SketchScope → List ℕ → SketchScope
sketch_fresh s name =
    record (sketch_equal s name (sketch.Resource (resource_id s.next))) { next = s.next + 1 }

abbrev pub sketch_export : SketchScope → List ℕ → ExportDesc → SketchScope
sketch_export s name (desc.Func i) =
    sketch_item_more s name (option_and_then func_item_in (slice_get s.types i))
sketch_export s name (desc.Type (bound.Equal i)) =
    sketch_equal s name (unwrap_or (slice_get s.types i) sketch.Faulty)
sketch_export s name (desc.Type bound.SubResource) = sketch_fresh s name

abbrev pub declared_sketch : SketchScope → DeclaredTypeTree → Sketch
declared_sketch s (declared_value v) = value_def_sketch s.types v
declared_sketch s (declared_func f) = func_def_sketch s.types f

-- the sketches after a declaration, and after declarations
abbrev pub after_sketched : List TypeDef → SketchScope → DeclarationTree → SketchScope
after_sketched around s (type_decl t) = sketch_more s (declared_sketch s t)
after_sketched around s (outer_type_decl o) =
    sketch_more s (unwrap_or (outer_sketched around s o.count o.index) sketch.Faulty)
after_sketched around s (export_decl e) = sketch_export s e.name e.desc

abbrev pub after_all_sketched : List TypeDef → SketchScope → List DeclarationTree → SketchScope
after_all_sketched around s [] = s
after_all_sketched around s (d ∷ ds) = after_all_sketched around (after_sketched around s d) ds

-- ---- what a declaration breaks besides the limits

abbrev pub declared_faults : SketchScope → DeclaredTypeTree → List ValidReason
declared_faults s (declared_value v) = value_def_faults s.types v
declared_faults s (declared_func f) = func_def_faults s.types f

abbrev pub declaration_faults : List TypeDef → SketchScope → DeclarationTree → List ValidReason
declaration_faults around s (type_decl t) = declared_faults s t
declaration_faults around s (outer_type_decl o) =
    found (λ t. []) (outer_sketched around s o.count o.index)
declaration_faults around s (export_decl e) = export_desc_broken (sketch_sorts s) e.desc

abbrev pub declarations_faults
    : List TypeDef → SketchScope → List DeclarationTree → List ValidReason
declarations_faults around s [] = []
declarations_faults around s (d ∷ ds) =
    declaration_faults around s d
    ++ declarations_faults around (after_sketched around s d) ds
