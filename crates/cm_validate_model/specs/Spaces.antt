-- The index spaces of a component: for each sort the definitions that the items before a place add,
-- in order (Explainer.md, "Index Spaces").
use Rattle.std.specs.Prelude.{ℕ, ◌+◌, List, [], ◌∷◌, ◌++◌}
use Rattle.std.specs.Prelude.{Option, Some, None, length, map, slice_get, option_to_list}
use Rattle.std.specs.Prelude.{if◌then◌else◌}
use Rattle.std.specs.List.{flat_map}
use Rattle.std.specs.Option.{option_map, option_map_or, option_and_then, option_or}
use Rattle.std.specs.Str.{bytes_eq}
use Rattle.cm_types.specs.Types.{FuncTy}
use Rattle.cm_types.specs.DefTypes.{DefTypeTree, value_def, func_def, resource_def, instance_def}
use Rattle.cm_types.specs.Signatures.{ItemTy, NamedItem, func_item, equal_type, equal_resource}
use Rattle.cm_types.specs.Signatures.{fresh_resource, ExternTy, NamedExtern}
use Rattle.cm_types.specs.Signatures as extern
use Rattle.cm_binary_model.specs.Trees.{CoreInstanceTree, AliasTree, CanonTree, CoreExportTree}
use Rattle.cm_binary_model.specs.Trees.{instantiate, core_exports, instance_export, outer_type}
use Rattle.cm_binary_model.specs.Trees.{core_instance_export, lift, lower, resource_new}
use Rattle.cm_binary_model.specs.Trees.{resource_drop}
use Rattle.cm_binary_model.specs.Trees.{resource_rep, SectionTree}
use Rattle.cm_binary_model.specs.declared.instances.CoreSort.{CoreSort}
use Rattle.cm_binary_model.specs.declared.instances.CoreSort.TheVariants as core_sort
use Rattle.cm_binary_model.specs.declared.instances.InlineExport.{InlineExport}
use Rattle.cm_binary_model.specs.declared.instances.InstanceExportSort.{InstanceExportSort}
use Rattle.cm_binary_model.specs.declared.instances.InstanceExportSort.TheVariants as member_sort
use Rattle.cm_binary_model.specs.declared.canons.CanonOption.{CanonOption}
use Rattle.cm_binary_model.specs.declared.canons.CanonOption.TheVariants as option
use Rattle.cm_binary_model.specs.declared.externs.ExternDesc.{ExternDesc}
use Rattle.cm_binary_model.specs.declared.externs.ExternDesc.TheVariants as desc
use Rattle.cm_binary_model.specs.declared.externs.ExportSort.{ExportSort}
use Rattle.cm_binary_model.specs.declared.externs.ExportSort.TheVariants as export_sort
use Rattle.cm_binary_model.specs.declared.externs.Export.{Export}
use Rattle.cm_validate_model.specs.Items.{Item, core_module_item, core_instance_item, instance_item}
use Rattle.cm_validate_model.specs.Items.{alias_item, type_item, canon_item, import_item}
use Rattle.cm_validate_model.specs.Items.{export_item}
use Rattle.cm_validate_model.specs.Items.{all_items}
use Rattle.cm_validate_model.specs.Definitions.{TypeDef, value, func_type, resource, instance_type}
use Rattle.cm_validate_model.specs.Definitions.{InstanceTy, ResourceDef, defined, brought}
use Rattle.cm_validate_model.specs.Definitions.{CoreExport}
use Rattle.cm_validate_model.specs.Definitions.{CoreFuncDef, guest, lowered, making, dropping}
use Rattle.cm_validate_model.specs.Definitions.{reading}
use Rattle.cm_validate_model.specs.Definitions.{CoreDef, core_func, table, memory, global}
use Rattle.cm_validate_model.specs.Definitions.{NamedCoreDef}
use Rattle.cm_validate_model.specs.Definitions.{CoreInstanceDef, instantiated, exporting, FuncDef}
use Rattle.cm_validate_model.specs.Definitions.{lifted}
use Rattle.cm_validate_model.specs.Definitions.{imported, MemberDef, func_member, type_member}
use Rattle.cm_validate_model.specs.Definitions.{NamedMember, ExportDef, exported_func}
use Rattle.cm_validate_model.specs.Definitions.{exported_instance}
use Rattle.cm_validate_model.specs.Definitions.{NamedExport, func_type_of}
use Rattle.cm_validate_model.specs.Scopes.{value_def_of, func_def_of, resource_in}
use Rattle.cm_validate_model.specs.Declarations.{instance_defined, type_in, with_item}
use Rattle.cm_validate_model.specs.Moves.{moved, moved_func, moved_item, moved_type}

-- the index spaces; the resources of the component, in the order of their numbers; the first memory
-- that a canonical option names; the imports and the exports
pub record Spaces : Type 0 where
  pub core_modules : ℕ
  pub core_instances : List CoreInstanceDef
  pub core_funcs : List CoreFuncDef
  pub tables : List CoreExport
  pub memories : List CoreExport
  pub globals : List CoreExport
  pub types : List TypeDef
  pub funcs : List FuncDef
  pub instances : List (List NamedMember)
  pub resources : List ResourceDef
  pub memory : Option CoreExport
  pub imports : List NamedExtern
  pub exports : List NamedExport

-- before the first item
abbrev pub empty_spaces : Spaces
empty_spaces =
    record {
      core_modules = 0;
      core_instances = [];
      core_funcs = [];
      tables = [];
      memories = [];
      globals = [];
      types = [];
      funcs = [];
      instances = [];
      resources = [];
      memory = None;
      imports = [];
      exports = [];
    }

-- ---- core definitions

-- the core definition of this sort and index
abbrev pub core_def_at : Spaces → CoreSort → ℕ → Option CoreDef
core_def_at s core_sort.Func i = option_map core_func (slice_get s.core_funcs i)
core_def_at s core_sort.Table i = option_map table (slice_get s.tables i)
core_def_at s core_sort.Memory i = option_map memory (slice_get s.memories i)
core_def_at s core_sort.Global i = option_map global (slice_get s.globals i)

-- the definition under a name
abbrev pub core_def_named : List NamedCoreDef → List ℕ → Option CoreDef
core_def_named [] name = None
core_def_named (d ∷ ds) name = if bytes_eq d.name name then Some d.def else core_def_named ds name

-- what an instance made of a module exports, of the sort that is wanted of it
abbrev pub core_def_of_sort : CoreSort → CoreExport → CoreDef
core_def_of_sort core_sort.Func e = core_func (guest e)
core_def_of_sort core_sort.Table e = table e
core_def_of_sort core_sort.Memory e = memory e
core_def_of_sort core_sort.Global e = global e

-- what an alias of a core instance's export names
abbrev pub core_export_in : CoreSort → ℕ → List ℕ → CoreInstanceDef → Option CoreDef
core_export_in sort instance name (instantiated m) =
    Some (core_def_of_sort sort (record { instance = instance; name = name }))
core_export_in sort instance name (exporting ds) = core_def_named ds name

abbrev pub aliased_core : Spaces → CoreSort → ℕ → List ℕ → Option CoreDef
aliased_core s sort instance name =
    option_and_then (core_export_in sort instance name) (slice_get s.core_instances instance)

-- a core instance
abbrev pub named_core_def : Spaces → CoreExportTree → List NamedCoreDef
named_core_def s e =
    option_to_list
    (option_map (λ d. record { name = e.name; def = d }) (core_def_at s e.sort e.index))

abbrev pub core_instance_of : Spaces → CoreInstanceTree → CoreInstanceDef
core_instance_of s (instantiate m args) = instantiated m
core_instance_of s (core_exports es) = exporting (flat_map (named_core_def s) es)

-- ---- functions, types and instances

-- the definition of this sort and index, as a member of an instance
abbrev pub member_at : Spaces → InstanceExportSort → ℕ → Option MemberDef
member_at s member_sort.Func i = option_map func_member (slice_get s.funcs i)
member_at s member_sort.Type i = option_map type_member (slice_get s.types i)

-- what an inline export names, under its name, if it names anything
abbrev pub named_member : Spaces → InlineExport → List NamedMember
named_member s e =
    option_to_list
    (option_map (λ d. record { name = e.name; def = d }) (member_at s e.sort e.index))

-- the item that a member is
abbrev pub item_of_member : MemberDef → Option ItemTy
item_of_member (func_member f) = Some (func_item (func_type_of f))
item_of_member (type_member t) = type_in t

abbrev pub items_of_members : List NamedMember → List NamedItem
items_of_members [] = []
items_of_members (m ∷ ms) = with_item [] m.name (item_of_member m.def) ++ items_of_members ms

-- what an instance has under a name
abbrev pub member_named : List NamedMember → List ℕ → Option MemberDef
member_named [] name = None
member_named (m ∷ ms) name = if bytes_eq m.name name then Some m.def else member_named ms name

abbrev pub aliased_member : Spaces → ℕ → List ℕ → Option MemberDef
aliased_member s instance name =
    option_and_then (λ ms. member_named ms name) (slice_get s.instances instance)

-- an import of this number of an instance of this type, its own resources numbered from `next` on:
-- what its item of a number is
abbrev pub member_of_item : InstanceTy → ℕ → ℕ → ℕ → ItemTy → MemberDef
member_of_item i next import item (func_item f) =
    func_member (imported import (Some item) (moved_func i next f))
member_of_item i next import item (equal_type t) = type_member (value (moved_type i next t))
member_of_item i next import item (equal_resource r) =
    type_member (resource (moved i next r.number))
member_of_item i next import item (fresh_resource r) =
    type_member (resource (moved i next r.number))

abbrev pub members_from : InstanceTy → ℕ → ℕ → ℕ → List NamedItem → List NamedMember
members_from i next import item [] = []
members_from i next import item (x ∷ xs) =
    record { name = x.name; def = member_of_item i next import item x.desc }
    ∷ members_from i next import (item + 1) xs

-- the resource that an item brings, if it is a fresh one
abbrev pub brought_by : ℕ → ℕ → ItemTy → List ResourceDef
brought_by import item (fresh_resource r) = brought import item ∷ []
brought_by import item _ = []

abbrev pub brought_from : ℕ → ℕ → List NamedItem → List ResourceDef
brought_from import item [] = []
brought_from import item (x ∷ xs) =
    brought_by import item x.desc ++ brought_from import (item + 1) xs

-- ---- what an item adds to each sort, in the spaces before it

-- the definition that an alias of a core instance's export names
abbrev pub core_alias : Spaces → AliasTree → Option CoreDef
core_alias s (core_instance_export sort instance name) = aliased_core s sort instance name
core_alias s _ = None

abbrev pub core_func_in : CoreDef → Option CoreFuncDef
core_func_in (core_func f) = Some f
core_func_in _ = None

abbrev pub table_in : CoreDef → Option CoreExport
table_in (table e) = Some e
table_in _ = None

abbrev pub memory_in : CoreDef → Option CoreExport
memory_in (memory e) = Some e
memory_in _ = None

abbrev pub global_in : CoreDef → Option CoreExport
global_in (global e) = Some e
global_in _ = None

-- of the definition that an item aliases, if it does, that which is of a sort
abbrev pub aliased : {A : Type 0} → (CoreDef → Option A) → Spaces → Item → List A
aliased sort s (alias_item a) = option_to_list (option_and_then sort (core_alias s a))
aliased sort s _ = []

abbrev pub new_core_instances : Spaces → Item → List CoreInstanceDef
new_core_instances s (core_instance_item i) = core_instance_of s i ∷ []
new_core_instances s _ = []

-- an import that is lowered
abbrev pub lower_func : List CanonOption → FuncDef → Option CoreFuncDef
lower_func options (lifted f ty os) = None
lower_func options (imported import item ty) = Some (lowered import item ty options)

-- what makes, drops or reads handles of the resource that an index names
abbrev pub resource_func : Spaces → (ℕ → CoreFuncDef) → ℕ → Option CoreFuncDef
resource_func s make i = option_map make (option_and_then resource_in (slice_get s.types i))

-- the core function that a canonical definition makes, if it makes one
abbrev pub canon_core_func : Spaces → CanonTree → Option CoreFuncDef
canon_core_func s (lift f os ty) = None
canon_core_func s (lower f os) = option_and_then (lower_func os) (slice_get s.funcs f)
canon_core_func s (resource_new i) = resource_func s making i
canon_core_func s (resource_drop i) = resource_func s dropping i
canon_core_func s (resource_rep i) = resource_func s reading i

abbrev pub new_core_funcs : Spaces → Item → List CoreFuncDef
new_core_funcs s (canon_item c) = option_to_list (canon_core_func s c)
new_core_funcs s x = aliased core_func_in s x

-- the resource that the component defines next, and the instance type whose own resources are
-- numbered from there on
abbrev pub next_resource : Spaces → ℕ
next_resource s = length s.resources

-- what a definition of a type stands for
abbrev pub def_of : Spaces → DefTypeTree → TypeDef
def_of s (value_def v) = value_def_of s.types v
def_of s (func_def f) = func_def_of s.types f
def_of s (resource_def destructor) = resource (next_resource s)
def_of s (instance_def ds) = instance_type (instance_defined s.types (next_resource s) ds)

-- the function, or the type, that an alias of an instance's export names
abbrev pub func_of_member : MemberDef → Option FuncDef
func_of_member (func_member f) = Some f
func_of_member (type_member t) = None

abbrev pub type_of_member : MemberDef → Option TypeDef
type_of_member (func_member f) = None
type_of_member (type_member t) = Some t

abbrev pub member_alias : Spaces → AliasTree → Option MemberDef
member_alias s (instance_export sort instance name) = aliased_member s instance name
member_alias s _ = None

-- the type that an alias names
abbrev pub type_alias : Spaces → AliasTree → Option TypeDef
type_alias s (outer_type o) = slice_get s.types o.index
type_alias s a = option_and_then type_of_member (member_alias s a)

-- the types that an item adds
abbrev pub new_types : Spaces → Item → List TypeDef
new_types s (type_item d) = def_of s d ∷ []
new_types s (alias_item a) = option_to_list (type_alias s a)
new_types s _ = []

-- the type that an import's description names
abbrev pub func_ty_in : TypeDef → Option FuncTy
func_ty_in (func_type f) = Some f
func_ty_in _ = None

abbrev pub instance_ty_in : TypeDef → Option InstanceTy
instance_ty_in (instance_type i) = Some i
instance_ty_in _ = None

abbrev pub imported_func : Spaces → ExternDesc → Option FuncTy
imported_func s (desc.Func i) = option_and_then func_ty_in (slice_get s.types i)
imported_func s (desc.Instance i) = None

abbrev pub imported_instance : Spaces → ExternDesc → Option InstanceTy
imported_instance s (desc.Func i) = None
imported_instance s (desc.Instance i) = option_and_then instance_ty_in (slice_get s.types i)

-- the next import's number
abbrev pub next_import : Spaces → ℕ
next_import s = length s.imports

-- the function that a lift, an import, an alias or an export adds
abbrev pub lifted_func : ℕ → List CanonOption → TypeDef → Option FuncDef
lifted_func f os t = option_map (λ ty. lifted f ty os) (func_ty_in t)

abbrev pub canon_func : Spaces → CanonTree → Option FuncDef
canon_func s (lift f os i) = option_and_then (lifted_func f os) (slice_get s.types i)
canon_func s _ = None

-- what an export names
abbrev pub exported : Spaces → ExportSort → ℕ → Option ExportDef
exported s export_sort.Func i = option_map exported_func (slice_get s.funcs i)
exported s export_sort.Instance i = option_map exported_instance (slice_get s.instances i)

abbrev pub func_exported : ExportDef → Option FuncDef
func_exported (exported_func f) = Some f
func_exported (exported_instance ms) = None

abbrev pub instance_exported : ExportDef → Option (List NamedMember)
instance_exported (exported_func f) = None
instance_exported (exported_instance ms) = Some ms

abbrev pub exported_at : {A : Type 0} → (ExportDef → Option A) → Spaces → Export → List A
exported_at sort s e = option_to_list (option_and_then sort (exported s e.sort e.index))

abbrev pub new_funcs : Spaces → Item → List FuncDef
new_funcs s (canon_item c) = option_to_list (canon_func s c)
new_funcs s (import_item i) =
    option_to_list (option_map (imported (next_import s) None) (imported_func s i.desc))
new_funcs s (alias_item a) =
    option_to_list (option_and_then func_of_member (member_alias s a))
new_funcs s (export_item e) = exported_at func_exported s e
new_funcs s _ = []

-- the members of an instance that is imported
abbrev pub members_imported : Spaces → InstanceTy → List NamedMember
members_imported s i = members_from i (next_resource s) (next_import s) 0 i.items

abbrev pub new_instances : Spaces → Item → List (List NamedMember)
new_instances s (instance_item es) = flat_map (named_member s) es ∷ []
new_instances s (import_item i) =
    option_to_list (option_map (members_imported s) (imported_instance s i.desc))
new_instances s (export_item e) = exported_at instance_exported s e
new_instances s _ = []

abbrev pub new_resources : Spaces → Item → List ResourceDef
new_resources s (type_item (resource_def destructor)) = defined destructor ∷ []
new_resources s (import_item i) =
    option_map_or (λ t. brought_from (next_import s) 0 t.items) (imported_instance s i.desc) []
new_resources s _ = []

-- ---- imports and exports

abbrev pub moved_named : Spaces → InstanceTy → NamedItem → NamedItem
moved_named s t i = record { name = i.name; desc = moved_item t (next_resource s) i.desc }

abbrev pub import_desc : Spaces → ExternDesc → Option ExternTy
import_desc s (desc.Func i) = option_map extern.func (imported_func s (desc.Func i))
import_desc s (desc.Instance i) =
    option_map (λ t. extern.instance (map (moved_named s t) t.items))
    (imported_instance s (desc.Instance i))

abbrev pub new_imports : Spaces → Item → List NamedExtern
new_imports s (import_item i) =
    option_to_list (option_map (λ d. record { name = i.name; desc = d }) (import_desc s i.desc))
new_imports s _ = []

abbrev pub new_exports : Spaces → Item → List NamedExport
new_exports s (export_item e) =
    option_to_list
    (option_map (λ d. record { name = e.name; def = d }) (exported s e.sort e.index))
new_exports s _ = []

-- ---- the first memory

abbrev pub options_of : CanonTree → List CanonOption
options_of (lift f os ty) = os
options_of (lower f os) = os
options_of _ = []

abbrev pub option_memory : Spaces → CanonOption → Option CoreExport
option_memory s (option.Memory i) = slice_get s.memories i
option_memory s _ = None

abbrev pub first_memory : Spaces → List CanonOption → Option CoreExport
first_memory s [] = None
first_memory s (o ∷ os) = option_or (option_memory s o) (first_memory s os)

abbrev pub memory_after : Spaces → Item → Option CoreExport
memory_after s (canon_item c) = option_or s.memory (first_memory s (options_of c))
memory_after s _ = s.memory

-- ---- the spaces after an item, and after items

abbrev pub new_core_modules : Item → ℕ
new_core_modules core_module_item = 1
new_core_modules _ = 0

abbrev pub after_item : Spaces → Item → Spaces
after_item s x =
    record {
      core_modules = s.core_modules + new_core_modules x;
      core_instances = s.core_instances ++ new_core_instances s x;
      core_funcs = s.core_funcs ++ new_core_funcs s x;
      tables = s.tables ++ aliased table_in s x;
      memories = s.memories ++ aliased memory_in s x;
      globals = s.globals ++ aliased global_in s x;
      types = s.types ++ new_types s x;
      funcs = s.funcs ++ new_funcs s x;
      instances = s.instances ++ new_instances s x;
      resources = s.resources ++ new_resources s x;
      memory = memory_after s x;
      imports = s.imports ++ new_imports s x;
      exports = s.exports ++ new_exports s x;
    }

abbrev pub after_items : Spaces → List Item → Spaces
after_items s [] = s
after_items s (x ∷ xs) = after_items (after_item s x) xs

-- the index spaces of a whole component
abbrev pub spaces_of : List SectionTree → Spaces
spaces_of sections = after_items empty_spaces (all_items sections)
