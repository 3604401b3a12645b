-- What the parts of a component hold, whatever its sections are: texts are UTF-8, names are names,
-- and indices are numbers of 32 bits.
use Rattle.std.specs.Prelude.{ℕ, ◌^◌, List, Bool, true, ◌&&◌, nat_lt, Option, Some, None}
use Rattle.std.specs.List.{list_all}
use Rattle.std.specs.Str.{is_utf8}
use Rattle.cm_types.specs.Names.{is_label}
use Rattle.cm_types.specs.ExternNames.{is_extern_name}
use Rattle.cm_types.specs.declared.def_types.ValType.{ValType}
use Rattle.cm_types.specs.declared.def_types.ValType.TheVariants as val_types
use Rattle.cm_types.specs.declared.def_types.LabeledValType.{LabeledValType}
use Rattle.cm_types.specs.declared.def_types.CaseType.{CaseType}
use Rattle.cm_types.specs.declared.def_types.TypeBound.{TypeBound}
use Rattle.cm_types.specs.declared.def_types.TypeBound.TheVariants as bounds
use Rattle.cm_types.specs.declared.def_types.ExportDesc.{ExportDesc}
use Rattle.cm_types.specs.declared.def_types.ExportDesc.TheVariants as export_descs
use Rattle.cm_types.specs.declared.def_types.ExportDecl.{ExportDecl}
use Rattle.cm_types.specs.DefTypes as types
use Rattle.cm_types.specs.DefTypes.{DefValTypeTree, FuncTypeTree, DeclaredTypeTree}
use Rattle.cm_types.specs.DefTypes.{DeclarationTree, DefTypeTree}
use Rattle.cm_types.specs.DefTypes.{value_def, func_def, resource_def, instance_def}
use Rattle.cm_binary_model.specs.declared.instances.InlineExport.{InlineExport}
use Rattle.cm_types.specs.declared.def_types.OuterType.{OuterType}
use Rattle.cm_binary_model.specs.declared.canons.CanonOption.{CanonOption}
use Rattle.cm_binary_model.specs.declared.canons.CanonOption.TheVariants as options
use Rattle.cm_binary_model.specs.declared.externs.ExternDesc.{ExternDesc}
use Rattle.cm_binary_model.specs.declared.externs.ExternDesc.TheVariants as descs
use Rattle.cm_binary_model.specs.declared.externs.Import.{Import}
use Rattle.cm_binary_model.specs.declared.externs.Export.{Export}
use Rattle.cm_binary_model.specs.Trees as trees
use Rattle.cm_binary_model.specs.Trees.{ArgTree, CoreExportTree, CoreInstanceTree, AliasTree}
use Rattle.cm_binary_model.specs.Trees.{CanonTree, SectionTree}

-- A number of 32 bits, as an index is.
abbrev pub is_index : ℕ → Bool
is_index n = nat_lt n (2 ^ 32)

-- A name of an import or export is an extern name.
abbrev pub holds_name : List ℕ → Bool
holds_name name = is_utf8 name && is_extern_name name

-- An argument of a core instance: its name is UTF-8, its instance an index.
abbrev pub holds_arg : ArgTree → Bool
holds_arg a = is_utf8 a.name && is_index a.instance

-- A core definition under a name: the name is UTF-8, the number an index.
abbrev pub holds_core_export : CoreExportTree → Bool
holds_core_export e = is_utf8 e.name && is_index e.index

-- A core instance: its module is an index, and its arguments or exports hold theirs.
abbrev pub holds_core_instance : CoreInstanceTree → Bool
holds_core_instance (trees.instantiate module_ args) = is_index module_ && list_all holds_arg args
holds_core_instance (trees.core_exports exports) = list_all holds_core_export exports

-- A definition under a name: the name is an extern name, the number an index.
abbrev pub holds_inline_export : InlineExport → Bool
holds_inline_export e = holds_name e.name && is_index e.index

-- An instance: what it exports holds its own.
abbrev pub holds_instance : List InlineExport → Bool
holds_instance exports = list_all holds_inline_export exports

-- A type of a component around: its numbers are of 32 bits.
abbrev pub holds_outer_type : OuterType → Bool
holds_outer_type o = is_index o.count && is_index o.index

-- An alias: its numbers are of 32 bits, its name a name or UTF-8.
abbrev pub holds_alias : AliasTree → Bool
holds_alias (trees.instance_export sort instance name) = is_index instance && holds_name name
holds_alias (trees.core_instance_export sort instance name) = is_index instance && is_utf8 name
holds_alias (trees.outer_type outer) = holds_outer_type outer

-- What may be there: what is there holds its own.
abbrev pub holds_optional : {A : Type 0} → (A → Bool) → Option A → Bool
holds_optional test (Some x) = test x
holds_optional test None = true

-- A label is a label.
abbrev pub holds_label : List ℕ → Bool
holds_label text = is_utf8 text && is_label text

-- A value type: its number, if it has one, is an index.
abbrev pub holds_val_type : ValType → Bool
holds_val_type (val_types.Primitive primitive) = true
holds_val_type (val_types.Index index) = is_index index

-- A parameter or a field: its label and its type hold theirs.
abbrev pub holds_param : LabeledValType → Bool
holds_param p = holds_label p.label && holds_val_type p.ty

-- A case: its label and what it carries hold theirs.
abbrev pub holds_case : CaseType → Bool
holds_case c = holds_label c.label && holds_optional holds_val_type c.payload

-- A value type that is defined: its parts hold theirs, and its numbers are of 32 bits.
abbrev pub holds_def_val_type : DefValTypeTree → Bool
holds_def_val_type (types.primitive p) = true
holds_def_val_type (types.record_of fields) = list_all holds_param fields
holds_def_val_type (types.variant_of cases) = list_all holds_case cases
holds_def_val_type (types.list_of element) = holds_val_type element
holds_def_val_type (types.fixed_list_of element length) = holds_val_type element && is_index length
holds_def_val_type (types.tuple_of parts) = list_all holds_val_type parts
holds_def_val_type (types.flags_of labels) = list_all holds_label labels
holds_def_val_type (types.enum_of labels) = list_all holds_label labels
holds_def_val_type (types.option_of some) = holds_val_type some
holds_def_val_type (types.result_of ok error) =
    holds_optional holds_val_type ok && holds_optional holds_val_type error
holds_def_val_type (types.own_of resource) = is_index resource
holds_def_val_type (types.borrow_of resource) = is_index resource

-- A function's type: its parameters and its result hold theirs.
abbrev pub holds_func : FuncTypeTree → Bool
holds_func f = list_all holds_param f.params && holds_optional holds_val_type f.result

-- A type in the type of an instance: what it defines holds its own.
abbrev pub holds_declared_type : DeclaredTypeTree → Bool
holds_declared_type (types.declared_value v) = holds_def_val_type v
holds_declared_type (types.declared_func f) = holds_func f

-- What is known of a type: its number, if it has one, is an index.
abbrev pub holds_type_bound : TypeBound → Bool
holds_type_bound (bounds.Equal ty) = is_index ty
holds_type_bound bounds.SubResource = true

-- What the instances of a type export: its type is an index.
abbrev pub holds_export_desc : ExportDesc → Bool
holds_export_desc (export_descs.Func ty) = is_index ty
holds_export_desc (export_descs.Type bound) = holds_type_bound bound

-- An export of the instances of a type: its name and what it is hold theirs.
abbrev pub holds_export_decl : ExportDecl → Bool
holds_export_decl e = holds_name e.name && holds_export_desc e.desc

-- What the type of an instance declares holds its own.
abbrev pub holds_declaration : DeclarationTree → Bool
holds_declaration (types.type_decl t) = holds_declared_type t
holds_declaration (types.outer_type_decl outer) = holds_outer_type outer
holds_declaration (types.export_decl e) = holds_export_decl e

-- A type definition: what it defines holds its own.
abbrev pub holds_def : DefTypeTree → Bool
holds_def (value_def v) = holds_def_val_type v
holds_def (func_def f) = holds_func f
holds_def (resource_def destructor) = holds_optional is_index destructor
holds_def (instance_def declarations) = list_all holds_declaration declarations

-- A canonical option: its number, if it has one, is an index.
abbrev pub holds_option : CanonOption → Bool
holds_option options.Utf8 = true
holds_option options.Utf16 = true
holds_option options.Latin1Utf16 = true
holds_option (options.Memory index) = is_index index
holds_option (options.Realloc index) = is_index index
holds_option (options.PostReturn index) = is_index index

-- A canonical definition: its numbers are indices, and its options hold theirs.
abbrev pub holds_canon : CanonTree → Bool
holds_canon (trees.lift func opts ty) = is_index func && (list_all holds_option opts && is_index ty)
holds_canon (trees.lower func opts) = is_index func && list_all holds_option opts
holds_canon (trees.resource_new resource) = is_index resource
holds_canon (trees.resource_drop resource) = is_index resource
holds_canon (trees.resource_rep resource) = is_index resource

-- What is imported: its type is an index.
abbrev pub holds_desc : ExternDesc → Bool
holds_desc (descs.Func ty) = is_index ty
holds_desc (descs.Instance ty) = is_index ty

-- An import: its name and what it is hold theirs.
abbrev pub holds_import : Import → Bool
holds_import i = holds_name i.name && holds_desc i.desc

-- An export: its name is an extern name, its number an index.
abbrev pub holds_export : Export → Bool
holds_export e = holds_name e.name && is_index e.index

-- A section: each of its items holds its own.
abbrev pub holds : SectionTree → Bool
holds (trees.custom name bytes) = is_utf8 name
holds (trees.core_module bytes) = true
holds (trees.core_instances items) = list_all holds_core_instance items
holds (trees.instances items) = list_all holds_instance items
holds (trees.aliases items) = list_all holds_alias items
holds (trees.types items) = list_all holds_def items
holds (trees.canons items) = list_all holds_canon items
holds (trees.imports items) = list_all holds_import items
holds (trees.exports items) = list_all holds_export items
