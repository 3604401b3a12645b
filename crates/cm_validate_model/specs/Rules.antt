-- The rules that an item of a component violates, in the index spaces of what stands before it
-- (Explainer.md, "Component Definitions" and the sections after it; the numbers of the reasons are
-- this project's own choice).
use Rattle.std.specs.Prelude.{Bool, true, false, not, ◌&&◌, ◌==◌, nat_lt, ℕ, List, [], ◌∷◌, ◌++◌}
use Rattle.std.specs.Prelude.{map, Option, slice_get}
use Rattle.std.specs.List.{flat_map, list_any}
use Rattle.std.specs.Option.{option_and_then}
use Rattle.std.specs.Str.{bytes_eq}
use Rattle.cm_types.specs.Names.{is_same_name}
use Rattle.cm_types.specs.Types.{FuncTy}
use Rattle.cm_types.specs.DefTypes.{DefTypeTree, value_def, func_def, resource_def, instance_def}
use Rattle.cm_binary_model.specs.Trees.{CoreInstanceTree, ArgTree, CoreExportTree, AliasTree}
use Rattle.cm_binary_model.specs.Trees.{CanonTree}
use Rattle.cm_binary_model.specs.Trees.{instantiate, core_exports, instance_export, outer_type}
use Rattle.cm_binary_model.specs.Trees.{lift}
use Rattle.cm_binary_model.specs.Trees.{core_instance_export, lower, resource_new, resource_drop}
use Rattle.cm_binary_model.specs.Trees.{resource_rep}
use Rattle.cm_binary_model.specs.declared.instances.CoreSort.{CoreSort}
use Rattle.cm_binary_model.specs.declared.instances.CoreSort.TheVariants as core_sort
use Rattle.cm_binary_model.specs.declared.instances.InlineExport.{InlineExport}
use Rattle.cm_binary_model.specs.declared.instances.InstanceExportSort.{InstanceExportSort}
use Rattle.cm_binary_model.specs.declared.instances.InstanceExportSort.TheVariants as member_sort
use Rattle.cm_binary_model.specs.declared.canons.CanonOption.{CanonOption}
use Rattle.cm_binary_model.specs.declared.externs.ExternDesc.{ExternDesc}
use Rattle.cm_binary_model.specs.declared.externs.ExternDesc.TheVariants as desc
use Rattle.cm_binary_model.specs.declared.externs.ExportSort.{ExportSort}
use Rattle.cm_binary_model.specs.declared.externs.ExportSort.TheVariants as export_sort
use Rattle.cm_binary_model.specs.declared.externs.Import.{Import}
use Rattle.cm_binary_model.specs.declared.externs.Export.{Export}
use Rattle.cm_validate_model.specs.declared.fault.ValidReason.{ValidReason}
use Rattle.cm_validate_model.specs.declared.fault.ValidReason.TheVariants as reason
use Rattle.cm_validate_model.specs.Items.{Item, core_module_item, core_instance_item, instance_item}
use Rattle.cm_validate_model.specs.Items.{alias_item, type_item, canon_item, import_item}
use Rattle.cm_validate_model.specs.Items.{export_item}
use Rattle.cm_validate_model.specs.Definitions.{ResourceDef, defined, brought, core_func, table}
use Rattle.cm_validate_model.specs.Definitions.{memory}
use Rattle.cm_validate_model.specs.Definitions.{global, sorts_of}
use Rattle.cm_validate_model.specs.Definitions.{FuncDef, lifted, imported, func_type_of, CoreDef}
use Rattle.cm_validate_model.specs.Definitions.{MemberDef}
use Rattle.cm_validate_model.specs.Definitions.{type_member, func_member}
use Rattle.cm_validate_model.specs.Reasons.{unless, found, if_found, index_broken}
use Rattle.cm_validate_model.specs.Reasons.{bare_index_broken}
use Rattle.cm_validate_model.specs.TypeRules.{value_def_broken, func_def_broken, has_sort}
use Rattle.cm_validate_model.specs.TypeRules.{is_value_or_resource}
use Rattle.cm_validate_model.specs.declared.sorts.TypeSort.{TypeSort}
use Rattle.cm_validate_model.specs.declared.sorts.TypeSort.TheVariants as sort
use Rattle.cm_validate_model.specs.ItemNames.{item_names_broken, is_label_name, is_instance_name}
use Rattle.cm_validate_model.specs.Spaces.{Spaces, core_def_at, aliased_core, aliased_member}
use Rattle.cm_validate_model.specs.Spaces.{items_of_members, named_member, func_ty_in}
use Rattle.cm_validate_model.specs.Spaces.{next_resource}
use Rattle.cm_validate_model.specs.Declarations.{instance_def_broken}
use Rattle.cm_validate_model.specs.Scopes.{resource_in}
use Rattle.cm_validate_model.specs.Options.{guest_broken, options_broken, no_post_return_broken}
use Rattle.cm_validate_model.specs.Options.{lift_type_broken, lower_type_broken}

-- an index of a type that has to be of a sort
abbrev pub type_index_broken : Spaces → (TypeSort → Bool) → ℕ → List ValidReason
type_index_broken s test i = index_broken test (sorts_of s.types) i

-- ---- core instances

-- no two of these texts are equal
abbrev pub are_distinct_texts : List (List ℕ) → Bool
are_distinct_texts [] = true
are_distinct_texts (x ∷ xs) = not (list_any (bytes_eq x) xs) && are_distinct_texts xs

-- the arguments, and the exports, of a core instance have names that differ as texts
abbrev pub texts_broken : List (List ℕ) → List ValidReason
texts_broken names = unless (are_distinct_texts names) reason.DuplicateName

abbrev pub arg_broken : Spaces → ArgTree → List ValidReason
arg_broken s a = bare_index_broken s.core_instances a.instance

abbrev pub core_export_broken : Spaces → CoreExportTree → List ValidReason
core_export_broken s e = found (λ d. []) (core_def_at s e.sort e.index)

abbrev pub core_instance_broken : Spaces → CoreInstanceTree → List ValidReason
core_instance_broken s (instantiate m args) =
    unless (nat_lt m s.core_modules) reason.NoSuchIndex
    ++ flat_map (arg_broken s) args
    ++ texts_broken (map (λ a. a.name) args)
core_instance_broken s (core_exports es) =
    flat_map (core_export_broken s) es ++ texts_broken (map (λ e. e.name) es)

-- ---- instances

-- a member is a function, a value type or a resource
abbrev pub member_of_sort_broken : Spaces → InstanceExportSort → ℕ → List ValidReason
member_of_sort_broken s member_sort.Func i = bare_index_broken s.funcs i
member_of_sort_broken s member_sort.Type i = type_index_broken s is_value_or_resource i

abbrev pub member_broken : Spaces → InlineExport → List ValidReason
member_broken s e = member_of_sort_broken s e.sort e.index

-- the members of an instance
abbrev pub instance_broken : Spaces → List InlineExport → List ValidReason
instance_broken s es =
    flat_map (member_broken s) es
    ++ item_names_broken (items_of_members (flat_map (named_member s) es))

-- ---- aliases

-- what is there is of the sort that is wanted
abbrev pub is_of_core_sort : CoreSort → CoreDef → Bool
is_of_core_sort core_sort.Func (core_func f) = true
is_of_core_sort core_sort.Table (table e) = true
is_of_core_sort core_sort.Memory (memory e) = true
is_of_core_sort core_sort.Global (global e) = true
is_of_core_sort _ _ = false

abbrev pub is_of_member_sort : InstanceExportSort → MemberDef → Bool
is_of_member_sort member_sort.Func (func_member f) = true
is_of_member_sort member_sort.Type (type_member t) = true
is_of_member_sort _ _ = false

-- an alias names an instance that is there, and an export of it, of the sort; a type of the
-- component itself, which no component is around
abbrev pub alias_broken : Spaces → AliasTree → List ValidReason
alias_broken s (instance_export sort instance name) =
    found (λ d. unless (is_of_member_sort sort d) reason.WrongSort) (aliased_member s instance name)
alias_broken s (core_instance_export sort instance name) =
    found (λ d. unless (is_of_core_sort sort d) reason.WrongSort)
    (aliased_core s sort instance name)
alias_broken s (outer_type o) =
    unless (o.count == 0) reason.NoSuchIndex ++ bare_index_broken s.types o.index

-- ---- types

abbrev pub type_broken : Spaces → DefTypeTree → List ValidReason
type_broken s (value_def v) = value_def_broken s.types v
type_broken s (func_def f) = func_def_broken s.types f
type_broken s (resource_def destructor) = if_found (guest_broken s.core_funcs) destructor
type_broken s (instance_def ds) = instance_def_broken s.types (next_resource s) ds

-- ---- canonical definitions

-- a function that is lowered comes from an import
abbrev pub is_imported : FuncDef → Bool
is_imported (lifted f ty os) = false
is_imported (imported import item ty) = true

-- a resource is one that the component defines
abbrev pub is_defined : ResourceDef → Bool
is_defined (defined destructor) = true
is_defined (brought import item) = false

abbrev pub own_resource_broken : Spaces → ℕ → List ValidReason
own_resource_broken s n =
    if_found (λ r. unless (is_defined r) reason.NotOwnResource) (slice_get s.resources n)

abbrev pub resource_broken : Spaces → ℕ → List ValidReason
resource_broken s i = type_index_broken s (has_sort sort.Resource) i

abbrev pub resource_at : Spaces → ℕ → Option ℕ
resource_at s i = option_and_then resource_in (slice_get s.types i)

-- the type of a function under an index, if one is there
abbrev pub func_ty_at : Spaces → ℕ → Option FuncTy
func_ty_at s i = option_and_then func_ty_in (slice_get s.types i)

abbrev pub lowered_broken : List CanonOption → FuncDef → List ValidReason
lowered_broken options f =
    unless (is_imported f) reason.NotImported ++ lower_type_broken options (func_type_of f)

-- the rules that a canonical definition violates
abbrev pub canon_broken : Spaces → CanonTree → List ValidReason
canon_broken s (lift f options ty) =
    guest_broken s.core_funcs f
    ++ type_index_broken s (has_sort sort.Func) ty
    ++ options_broken s options
    ++ if_found (lift_type_broken options) (func_ty_at s ty)
canon_broken s (lower f options) =
    found (lowered_broken options) (slice_get s.funcs f)
    ++ options_broken s options
    ++ no_post_return_broken options
canon_broken s (resource_new i) =
    resource_broken s i ++ if_found (own_resource_broken s) (resource_at s i)
canon_broken s (resource_drop i) = resource_broken s i
canon_broken s (resource_rep i) =
    resource_broken s i ++ if_found (own_resource_broken s) (resource_at s i)

-- ---- imports and exports

-- the name of an import, or of an export, is none that stands before it, ASCII case aside
abbrev pub name_broken : List ℕ → List (List ℕ) → List ValidReason
name_broken name names = unless (not (list_any (is_same_name name) names)) reason.DuplicateName

-- the name fits what it names
abbrev pub func_name_broken : List ℕ → List ValidReason
func_name_broken name = unless (is_label_name name) reason.BadAnnotatedName

abbrev pub instance_name_broken : List ℕ → List ValidReason
instance_name_broken name = unless (is_instance_name name) reason.BadAnnotatedName

abbrev pub desc_broken : Spaces → List ℕ → ExternDesc → List ValidReason
desc_broken s name (desc.Func i) =
    type_index_broken s (has_sort sort.Func) i ++ func_name_broken name
desc_broken s name (desc.Instance i) =
    type_index_broken s (has_sort sort.Instance) i ++ instance_name_broken name

abbrev pub import_broken : Spaces → Import → List ValidReason
import_broken s i = desc_broken s i.name i.desc ++ name_broken i.name (map (λ x. x.name) s.imports)

abbrev pub exported_broken : Spaces → List ℕ → ExportSort → ℕ → List ValidReason
exported_broken s name export_sort.Func i = bare_index_broken s.funcs i ++ func_name_broken name
exported_broken s name export_sort.Instance i =
    bare_index_broken s.instances i ++ instance_name_broken name

abbrev pub export_broken : Spaces → Export → List ValidReason
export_broken s e =
    exported_broken s e.name e.sort e.index ++ name_broken e.name (map (λ x. x.name) s.exports)

-- ---- what an item breaks

abbrev pub broken : Spaces → Item → List ValidReason
broken s core_module_item = []
broken s (core_instance_item i) = core_instance_broken s i
broken s (instance_item es) = instance_broken s es
broken s (alias_item a) = alias_broken s a
broken s (type_item d) = type_broken s d
broken s (canon_item c) = canon_broken s c
broken s (import_item i) = import_broken s i
broken s (export_item e) = export_broken s e
