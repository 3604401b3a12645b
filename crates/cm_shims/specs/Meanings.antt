-- What an instance of a shim is by its own index spaces, where what it imports is what it is given
-- (Binary.md, "Instance Definitions", `instantiate`; Explainer.md, "Index Spaces").
use Rattle.std.specs.Prelude.{◌≡◌, ℕ, List, [], ◌∷◌, ◌++◌, map, slice_get, Option, Some, None}
use Rattle.std.specs.List.{flat_map}
use Rattle.std.specs.Option.{option_and_then, option_map}
use Rattle.std.specs.Result.{result_ok}
use Rattle.cm_types.specs.declared.def_types.ExportDesc.{ExportDesc}
use Rattle.cm_types.specs.declared.def_types.ExportDesc.TheVariants as descs
use Rattle.cm_types.specs.DefTypes.{DefTypeTree, value_def, func_def, resource_def, instance_def}
use Rattle.cm_binary_model.specs.declared.instances.InlineExport.{InlineExport}
use Rattle.cm_binary_model.specs.declared.instances.InstanceExportSort.{InstanceExportSort}
use Rattle.cm_binary_model.specs.declared.instances.InstanceExportSort.TheVariants as sorts
use Rattle.cm_binary_model.specs.Trees as sections
use Rattle.cm_binary_model.specs.Trees.{SectionTree}
use Rattle.cm_validate_model.specs.Definitions.{TypeDef, FuncDef, MemberDef, func_member}
use Rattle.cm_validate_model.specs.Definitions.{type_member, NamedMember}
use Rattle.cm_validate_model.specs.Items.{type_item}
use Rattle.cm_validate_model.specs.Scopes.{func_def_of, value_def_of}
use Rattle.cm_validate_model.specs.Spaces.{Spaces, after_items, named_member}
use Rattle.cm_shims_plain.specs.declared.parts.ShimExport.{ShimExport}
use Rattle.cm_shims_plain.specs.declared.parts.ShimImport.{ShimImport}
use Rattle.cm_shims_plain.specs.Trees as trees
use Rattle.cm_shims_plain.specs.Trees.{ShimSectionTree}
use Rattle.cm_shims_plain.specs.Instantiated.{Given, argument, type_argument}

-- What each index of a type stands for in the shim, its place stands for in the component.
abbrev pub AgreeAt : (ℕ → ℕ) → List TypeDef → List TypeDef → Type 0
AgreeAt f own types = (i : ℕ) → slice_get types (f i) ≡ slice_get own i

-- The index spaces of the instance as far as the shim was gone through, and its items by name.
pub record Own : Type 0 where
  pub types : List TypeDef
  pub funcs : List FuncDef
  pub items : List NamedMember

abbrev pub nothing : Own
nothing = record { types = []; funcs = []; items = [] }

abbrev pub and_type : Own → TypeDef → Own
and_type o t = record { types = o.types ++ t ∷ []; funcs = o.funcs; items = o.items }

abbrev pub and_func : Own → FuncDef → Own
and_func o f = record { types = o.types; funcs = o.funcs ++ f ∷ []; items = o.items }

abbrev pub and_item : Own → List ℕ → MemberDef → Own
and_item o name m = record {
  types = o.types;
  funcs = o.funcs;
  items = o.items ++ record { name = name; def = m } ∷ [];
}

-- ---- sections

-- The function, and the type, that is given under a name: one of the component.
abbrev pub func_given : Spaces → Given → List ℕ → Option FuncDef
func_given s g name =
    option_and_then (slice_get s.funcs) (result_ok (argument g.args sorts.Func name))

abbrev pub type_given : Spaces → Given → List ℕ → Option TypeDef
type_given s g name = option_and_then (slice_get s.types) (result_ok (type_argument g name))

-- An import is what is given under its name.
abbrev pub own_import : Spaces → Given → Own → List ℕ → ExportDesc → Option Own
own_import s g o name (descs.Func ty) = option_map (and_func o) (func_given s g name)
own_import s g o name (descs.Type bound) = option_map (and_type o) (type_given s g name)

abbrev pub import_own : Spaces → Given → Own → ShimImport → Option Own
import_own s g o i = own_import s g o i.name i.desc

-- A type is what its definition stands for among the shim's own types.
abbrev pub stands_for : List TypeDef → DefTypeTree → Option TypeDef
stands_for types (value_def v) = Some (value_def_of types v)
stands_for types (func_def f) = Some (func_def_of types f)
stands_for types (resource_def destructor) = None
stands_for types (instance_def declarations) = None

abbrev pub type_own : Own → DefTypeTree → Option Own
type_own o t = option_map (and_type o) (stands_for o.types t)

-- An export is an item, and one more index.
abbrev pub own_export : Own → List ℕ → InstanceExportSort → ℕ → Option Own
own_export o name sorts.Func i =
    option_map (λ f. and_func (and_item o name (func_member f)) f) (slice_get o.funcs i)
own_export o name sorts.Type i =
    option_map (λ t. and_type (and_item o name (type_member t)) t) (slice_get o.types i)

abbrev pub export_own : Own → ShimExport → Option Own
export_own o e = own_export o e.name e.sort e.index

-- One after the other.
abbrev pub each_own : {A : Type 0} → (Own → A → Option Own) → Own → List A → Option Own
each_own step o [] = Some o
each_own step o (x ∷ xs) = option_and_then (λ p. each_own step p xs) (step o x)

abbrev pub shared_own : Own → SectionTree → Option Own
shared_own o (sections.types ts) = each_own type_own o ts
shared_own o section = Some o

abbrev pub section_own : Spaces → Given → Own → ShimSectionTree → Option Own
section_own s g o (trees.shared section) = shared_own o section
section_own s g o (trees.shim_imports items) = each_own (import_own s g) o items
section_own s g o (trees.shim_exports items) = each_own export_own o items

-- The instance of a shim in the index spaces of a component.
abbrev pub own_instance : Spaces → Given → List ShimSectionTree → Option Own
own_instance s g shim = each_own (section_own s g) nothing shim

-- ---- in the component

-- The items of an instance that is made of these exports, behind these types.
abbrev pub items_behind : Spaces → List DefTypeTree → List InlineExport → List NamedMember
items_behind s made exports = flat_map (named_member (after_items s (map type_item made))) exports
