-- Trees of a file in which each index of a type is replaced by its place in the plain component.
-- `f` says where the type with an index stands there.
use Rattle.std.specs.Prelude.{ℕ, ◌==◌, List, map, max, get_or, Option, Some, None, if◌then◌else◌}
use Rattle.std.specs.Option.{option_map}
use Rattle.cm_types.specs.declared.def_types.ValType.{ValType}
use Rattle.cm_types.specs.declared.def_types.ValType.TheVariants as val_types
use Rattle.cm_types.specs.declared.def_types.LabeledValType.{LabeledValType}
use Rattle.cm_types.specs.declared.def_types.CaseType.{CaseType}
use Rattle.cm_types.specs.declared.def_types.OuterType.{OuterType}
use Rattle.cm_types.specs.DefTypes as types
use Rattle.cm_types.specs.DefTypes.{DefValTypeTree, FuncTypeTree, DeclarationTree, DefTypeTree}
use Rattle.cm_types.specs.DefTypes.{value_def, func_def, resource_def, instance_def}
use Rattle.cm_binary_model.specs.declared.instances.InlineExport.{InlineExport}
use Rattle.cm_binary_model.specs.declared.instances.InstanceExportSort.{InstanceExportSort}
use Rattle.cm_binary_model.specs.declared.instances.InstanceExportSort.TheVariants as sorts
use Rattle.cm_binary_model.specs.Trees as trees
use Rattle.cm_binary_model.specs.Trees.{AliasTree, CanonTree}

-- Where the type with an index stands, of types that stand at these places, with so many before: an
-- index that no type has is one that no type has there, too.
abbrev pub place_of : List ℕ → ℕ → ℕ → ℕ
place_of places count i = get_or places i (max i count)

-- A value type where it is used.
abbrev pub renumbered_val : (ℕ → ℕ) → ValType → ValType
renumbered_val f (val_types.Primitive p) = val_types.Primitive p
renumbered_val f (val_types.Index i) = val_types.Index (f i)

-- A parameter or a field.
abbrev pub renumbered_field : (ℕ → ℕ) → LabeledValType → LabeledValType
renumbered_field f x = record { label = x.label; ty = renumbered_val f x.ty }

-- A case.
abbrev pub renumbered_case : (ℕ → ℕ) → CaseType → CaseType
renumbered_case f c = record {
  label = c.label;
  payload = option_map (renumbered_val f) c.payload;
}

-- A value type that is defined.
abbrev pub renumbered_value : (ℕ → ℕ) → DefValTypeTree → DefValTypeTree
renumbered_value f (types.primitive p) = types.primitive p
renumbered_value f (types.record_of fields) = types.record_of (map (renumbered_field f) fields)
renumbered_value f (types.variant_of cases) = types.variant_of (map (renumbered_case f) cases)
renumbered_value f (types.list_of element) = types.list_of (renumbered_val f element)
renumbered_value f (types.fixed_list_of element n) =
    types.fixed_list_of (renumbered_val f element) n
renumbered_value f (types.tuple_of parts) = types.tuple_of (map (renumbered_val f) parts)
renumbered_value f (types.flags_of labels) = types.flags_of labels
renumbered_value f (types.enum_of labels) = types.enum_of labels
renumbered_value f (types.option_of some) = types.option_of (renumbered_val f some)
renumbered_value f (types.result_of ok error) =
    types.result_of (option_map (renumbered_val f) ok) (option_map (renumbered_val f) error)
renumbered_value f (types.own_of resource) = types.own_of (f resource)
renumbered_value f (types.borrow_of resource) = types.borrow_of (f resource)

-- The type of a function.
abbrev pub renumbered_func : (ℕ → ℕ) → FuncTypeTree → FuncTypeTree
renumbered_func f t = record {
  params = map (renumbered_field f) t.params;
  result = option_map (renumbered_val f) t.result;
}

-- A type of a component around, so many components outwards from the one whose types f places.
abbrev pub renumbered_outer : ℕ → (ℕ → ℕ) → OuterType → OuterType
renumbered_outer count f outer =
    if outer.count == count then record { count = outer.count; index = f outer.index } else outer

-- What the type of an instance declares: its own indices stay as they are.
abbrev pub renumbered_declaration : (ℕ → ℕ) → DeclarationTree → DeclarationTree
renumbered_declaration f (types.type_decl t) = types.type_decl t
renumbered_declaration f (types.outer_type_decl outer) =
    types.outer_type_decl (renumbered_outer 1 f outer)
renumbered_declaration f (types.export_decl e) = types.export_decl e

-- A type definition.
abbrev pub renumbered_def : (ℕ → ℕ) → DefTypeTree → DefTypeTree
renumbered_def f (value_def v) = value_def (renumbered_value f v)
renumbered_def f (func_def t) = func_def (renumbered_func f t)
renumbered_def f (resource_def destructor) = resource_def destructor
renumbered_def f (instance_def declarations) =
    instance_def (map (renumbered_declaration f) declarations)

-- A type definition as a shim may have one: a value type or the type of a function.
abbrev pub copied : (ℕ → ℕ) → DefTypeTree → Option DefTypeTree
copied f (value_def v) = Some (renumbered_def f (value_def v))
copied f (func_def t) = Some (renumbered_def f (func_def t))
copied f (resource_def destructor) = None
copied f (instance_def declarations) = None

-- A definition under a name: of the sorts that there are only types are renumbered.
abbrev pub renumbered_index : (ℕ → ℕ) → InstanceExportSort → ℕ → ℕ
renumbered_index f sorts.Func i = i
renumbered_index f sorts.Type i = f i

abbrev pub renumbered_export : (ℕ → ℕ) → InlineExport → InlineExport
renumbered_export f e = record {
  name = e.name;
  sort = e.sort;
  index = renumbered_index f e.sort e.index;
}

-- An alias.
abbrev pub renumbered_alias : (ℕ → ℕ) → AliasTree → AliasTree
renumbered_alias f (trees.instance_export sort instance name) =
    trees.instance_export sort instance name
renumbered_alias f (trees.core_instance_export sort instance name) =
    trees.core_instance_export sort instance name
renumbered_alias f (trees.outer_type outer) = trees.outer_type (renumbered_outer 0 f outer)

-- A canonical definition.
abbrev pub renumbered_canon : (ℕ → ℕ) → CanonTree → CanonTree
renumbered_canon f (trees.lift func options ty) = trees.lift func options (f ty)
renumbered_canon f (trees.lower func options) = trees.lower func options
renumbered_canon f (trees.resource_new resource) = trees.resource_new (f resource)
renumbered_canon f (trees.resource_drop resource) = trees.resource_drop (f resource)
renumbered_canon f (trees.resource_rep resource) = trees.resource_rep (f resource)
