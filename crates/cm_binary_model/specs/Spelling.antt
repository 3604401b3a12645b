-- The spelling with shortest numbers of each form (Binary.md, whose names of the forms stand in
-- brackets), which is the one that is written.
use Rattle.std.specs.Prelude.{ℕ, List, [], ◌∷◌, ◌++◌, Option, Some, None, pos}
use Rattle.std.specs.List.{flat_map}
use Rattle.cm_leb.specs.NumbersWritten.{shortest_unsigned, shortest_signed}
use Rattle.cm_binary_grammar.specs.Spelling.{vec_spelling, blob_spelling}
use Rattle.cm_types.specs.declared.def_types.PrimValType.{PrimValType}
use Rattle.cm_types.specs.declared.def_types.PrimValType.TheVariants as prim_val_types
use Rattle.cm_types.specs.declared.def_types.ValType.{ValType}
use Rattle.cm_types.specs.declared.def_types.ValType.TheVariants as val_types
use Rattle.cm_types.specs.declared.def_types.LabeledValType.{LabeledValType}
use Rattle.cm_types.specs.declared.def_types.CaseType.{CaseType}
use Rattle.cm_types.specs.declared.def_types.TypeBound.{TypeBound}
use Rattle.cm_types.specs.declared.def_types.TypeBound.TheVariants as bounds
use Rattle.cm_types.specs.declared.def_types.ExportDesc.{ExportDesc}
use Rattle.cm_types.specs.declared.def_types.ExportDesc.TheVariants as export_descs
use Rattle.cm_types.specs.declared.def_types.ExportDecl.{ExportDecl}
use Rattle.cm_types.specs.DefTypes as types
use Rattle.cm_types.specs.DefTypes.{DefValTypeTree, FuncTypeTree, DeclaredTypeTree}
use Rattle.cm_types.specs.DefTypes.{DeclarationTree, DefTypeTree}
use Rattle.cm_types.specs.DefTypes.{value_def, func_def, resource_def, instance_def}
use Rattle.cm_binary_model.specs.declared.instances.CoreSort.{CoreSort}
use Rattle.cm_binary_model.specs.declared.instances.CoreSort.TheVariants as core_sorts
use Rattle.cm_binary_model.specs.declared.instances.InlineExport.{InlineExport}
use Rattle.cm_binary_model.specs.declared.instances.InstanceExportSort.{InstanceExportSort}
use Rattle.cm_binary_model.specs.declared.instances.InstanceExportSort.TheVariants as instance_sorts
use Rattle.cm_types.specs.declared.def_types.OuterType.{OuterType}
use Rattle.cm_binary_model.specs.declared.canons.CanonOption.{CanonOption}
use Rattle.cm_binary_model.specs.declared.canons.CanonOption.TheVariants as options
use Rattle.cm_binary_model.specs.declared.externs.ExternDesc.{ExternDesc}
use Rattle.cm_binary_model.specs.declared.externs.ExternDesc.TheVariants as descs
use Rattle.cm_binary_model.specs.declared.externs.Import.{Import}
use Rattle.cm_binary_model.specs.declared.externs.Export.{Export}
use Rattle.cm_binary_model.specs.declared.externs.ExportSort.{ExportSort}
use Rattle.cm_binary_model.specs.declared.externs.ExportSort.TheVariants as export_sorts
use Rattle.cm_binary_model.specs.declared.limits.TheConstants.{COMPONENT_PREAMBLE}
use Rattle.cm_binary_model.specs.Trees as trees
use Rattle.cm_binary_model.specs.Trees.{ArgTree, CoreExportTree, CoreInstanceTree, AliasTree}
use Rattle.cm_binary_model.specs.Trees.{CanonTree, SectionTree}

-- A name of an import or export: a byte, and the name (`importname`, `exportname`).
abbrev pub extern_name_spelling : List ℕ → List ℕ
extern_name_spelling name = 0x00 ∷ blob_spelling name

-- An argument of a core instance: its name, the sort of instances, the index
-- (`core:instantiatearg`).
abbrev pub core_arg_spelling : ArgTree → List ℕ
core_arg_spelling a = blob_spelling a.name ++ (0x12 ∷ shortest_unsigned a.instance)

-- A core sort (`core:sort`).
abbrev pub core_sort_code : CoreSort → ℕ
core_sort_code core_sorts.Func = 0x00
core_sort_code core_sorts.Table = 0x01
core_sort_code core_sorts.Memory = 0x02
core_sort_code core_sorts.Global = 0x03

-- A core definition under a name: the name, the sort, the index (`core:inlineexport`).
abbrev pub core_export_spelling : CoreExportTree → List ℕ
core_export_spelling e = blob_spelling e.name ++ (core_sort_code e.sort ∷ shortest_unsigned e.index)

-- A core instance made of a module: the module, the arguments; or of exports (`core:instance`).
abbrev pub core_instance_spelling : CoreInstanceTree → List ℕ
core_instance_spelling (trees.instantiate module_ args) =
    0x00 ∷ (shortest_unsigned module_ ++ vec_spelling core_arg_spelling args)
core_instance_spelling (trees.core_exports exports) =
    0x01 ∷ vec_spelling core_export_spelling exports

-- What an instance exports (`sort`).
abbrev pub instance_sort_code : InstanceExportSort → ℕ
instance_sort_code instance_sorts.Func = 0x01
instance_sort_code instance_sorts.Type = 0x03

-- A definition under a name: the name, the sort, the index (`inlineexport`).
abbrev pub inline_export_spelling : InlineExport → List ℕ
inline_export_spelling e = extern_name_spelling e.name
    ++ (instance_sort_code e.sort ∷ shortest_unsigned e.index)

-- An instance made of exports (`instance`).
abbrev pub instance_spelling : List InlineExport → List ℕ
instance_spelling exports = 0x01 ∷ vec_spelling inline_export_spelling exports

-- A type of a component around: how far outwards, and the index there (`aliastarget`).
abbrev pub outer_type_spelling : OuterType → List ℕ
outer_type_spelling o = shortest_unsigned o.count ++ shortest_unsigned o.index

-- An alias: the sort, the target (`alias`).
abbrev pub alias_spelling : AliasTree → List ℕ
alias_spelling (trees.instance_export sort instance name) =
    instance_sort_code sort ∷ 0x00 ∷ (shortest_unsigned instance ++ blob_spelling name)
alias_spelling (trees.core_instance_export sort instance name) =
    0x00 ∷ core_sort_code sort ∷ 0x01 ∷ (shortest_unsigned instance ++ blob_spelling name)
alias_spelling (trees.outer_type outer) = 0x03 ∷ 0x02 ∷ outer_type_spelling outer

-- What may be there: a byte for whether it is, and what is there (`<T>?`).
abbrev pub optional_spelling : {A : Type 0} → (A → List ℕ) → Option A → List ℕ
optional_spelling spell None = 0x00 ∷ []
optional_spelling spell (Some x) = 0x01 ∷ spell x

-- A primitive value type (`primvaltype`).
abbrev pub prim_val_type_code : PrimValType → ℕ
prim_val_type_code prim_val_types.Bool = 0x7f
prim_val_type_code prim_val_types.S8 = 0x7e
prim_val_type_code prim_val_types.U8 = 0x7d
prim_val_type_code prim_val_types.S16 = 0x7c
prim_val_type_code prim_val_types.U16 = 0x7b
prim_val_type_code prim_val_types.S32 = 0x7a
prim_val_type_code prim_val_types.U32 = 0x79
prim_val_type_code prim_val_types.S64 = 0x78
prim_val_type_code prim_val_types.U64 = 0x77
prim_val_type_code prim_val_types.Char = 0x74
prim_val_type_code prim_val_types.String = 0x73

-- A value type: a primitive one, or the index of a type as a number with a sign (`valtype`).
abbrev pub val_type_spelling : ValType → List ℕ
val_type_spelling (val_types.Primitive primitive) = prim_val_type_code primitive ∷ []
val_type_spelling (val_types.Index index) = shortest_signed (pos index)

-- A parameter or a field: its label, its type (`labelvaltype`).
abbrev pub param_spelling : LabeledValType → List ℕ
param_spelling p = blob_spelling p.label ++ val_type_spelling p.ty

-- A case: its label, the type that it carries, if it does, and a byte 00 (`case`).
abbrev pub case_spelling : CaseType → List ℕ
case_spelling c = blob_spelling c.label
    ++ (optional_spelling val_type_spelling c.payload ++ (0x00 ∷ []))

-- The code of a value type that is defined (`defvaltype`).
abbrev pub def_val_type_code : DefValTypeTree → ℕ
def_val_type_code (types.primitive p) = prim_val_type_code p
def_val_type_code (types.record_of fields) = 0x72
def_val_type_code (types.variant_of cases) = 0x71
def_val_type_code (types.list_of element) = 0x70
def_val_type_code (types.fixed_list_of element length) = 0x67
def_val_type_code (types.tuple_of parts) = 0x6f
def_val_type_code (types.flags_of labels) = 0x6e
def_val_type_code (types.enum_of labels) = 0x6d
def_val_type_code (types.option_of some) = 0x6b
def_val_type_code (types.result_of ok error) = 0x6a
def_val_type_code (types.own_of resource) = 0x69
def_val_type_code (types.borrow_of resource) = 0x68

-- What stands behind it.
abbrev pub def_val_type_parts : DefValTypeTree → List ℕ
def_val_type_parts (types.primitive p) = []
def_val_type_parts (types.record_of fields) = vec_spelling param_spelling fields
def_val_type_parts (types.variant_of cases) = vec_spelling case_spelling cases
def_val_type_parts (types.list_of element) = val_type_spelling element
def_val_type_parts (types.fixed_list_of element length) =
    val_type_spelling element ++ shortest_unsigned length
def_val_type_parts (types.tuple_of parts) = vec_spelling val_type_spelling parts
def_val_type_parts (types.flags_of labels) = vec_spelling blob_spelling labels
def_val_type_parts (types.enum_of labels) = vec_spelling blob_spelling labels
def_val_type_parts (types.option_of some) = val_type_spelling some
def_val_type_parts (types.result_of ok error) =
    optional_spelling val_type_spelling ok ++ optional_spelling val_type_spelling error
def_val_type_parts (types.own_of resource) = shortest_unsigned resource
def_val_type_parts (types.borrow_of resource) = shortest_unsigned resource

-- A value type that is defined: its code, and what it is made of (`defvaltype`).
abbrev pub def_val_type_spelling : DefValTypeTree → List ℕ
def_val_type_spelling t = def_val_type_code t ∷ def_val_type_parts t

-- The result of a function, or that it has none (`resultlist`).
abbrev pub result_spelling : Option ValType → List ℕ
result_spelling (Some ty) = 0x00 ∷ val_type_spelling ty
result_spelling None = 0x01 ∷ 0x00 ∷ []

-- A function's type behind its code: the parameters, the result (`functype`).
abbrev pub func_spelling : FuncTypeTree → List ℕ
func_spelling f = vec_spelling param_spelling f.params ++ result_spelling f.result

-- A type in the type of an instance (`type`).
abbrev pub declared_type_spelling : DeclaredTypeTree → List ℕ
declared_type_spelling (types.declared_value v) = def_val_type_spelling v
declared_type_spelling (types.declared_func f) = 0x40 ∷ func_spelling f

-- What is known of a type (`typebound`).
abbrev pub type_bound_spelling : TypeBound → List ℕ
type_bound_spelling (bounds.Equal ty) = 0x00 ∷ shortest_unsigned ty
type_bound_spelling bounds.SubResource = 0x01 ∷ []

-- What the instances of a type export (`externdesc`).
abbrev pub export_desc_spelling : ExportDesc → List ℕ
export_desc_spelling (export_descs.Func ty) = 0x01 ∷ shortest_unsigned ty
export_desc_spelling (export_descs.Type bound) = 0x03 ∷ type_bound_spelling bound

-- An export of the instances of a type: its name, what it is (`exportdecl`).
abbrev pub export_decl_spelling : ExportDecl → List ℕ
export_decl_spelling e = extern_name_spelling e.name ++ export_desc_spelling e.desc

-- What the type of an instance declares (`instancedecl`).
abbrev pub declaration_spelling : DeclarationTree → List ℕ
declaration_spelling (types.type_decl t) = 0x01 ∷ declared_type_spelling t
declaration_spelling (types.outer_type_decl outer) =
    0x02 ∷ 0x03 ∷ 0x02 ∷ outer_type_spelling outer
declaration_spelling (types.export_decl e) = 0x04 ∷ export_decl_spelling e

-- A type definition; of a resource a code, what represents it (an `i32`) and the destructor
-- (`deftype`).
abbrev pub def_spelling : DefTypeTree → List ℕ
def_spelling (value_def v) = def_val_type_spelling v
def_spelling (func_def f) = 0x40 ∷ func_spelling f
def_spelling (resource_def destructor) =
    0x3f ∷ 0x7f ∷ optional_spelling shortest_unsigned destructor
def_spelling (instance_def declarations) = 0x42 ∷ vec_spelling declaration_spelling declarations

-- A canonical option (`canonopt`).
abbrev pub option_spelling : CanonOption → List ℕ
option_spelling options.Utf8 = 0x00 ∷ []
option_spelling options.Utf16 = 0x01 ∷ []
option_spelling options.Latin1Utf16 = 0x02 ∷ []
option_spelling (options.Memory index) = 0x03 ∷ shortest_unsigned index
option_spelling (options.Realloc index) = 0x04 ∷ shortest_unsigned index
option_spelling (options.PostReturn index) = 0x05 ∷ shortest_unsigned index

-- A canonical definition (`canon`).
abbrev pub canon_spelling : CanonTree → List ℕ
canon_spelling (trees.lift func opts ty) = 0x00 ∷ 0x00
    ∷ (shortest_unsigned func ++ (vec_spelling option_spelling opts ++ shortest_unsigned ty))
canon_spelling (trees.lower func opts) =
    0x01 ∷ 0x00 ∷ (shortest_unsigned func ++ vec_spelling option_spelling opts)
canon_spelling (trees.resource_new resource) = 0x02 ∷ shortest_unsigned resource
canon_spelling (trees.resource_drop resource) = 0x03 ∷ shortest_unsigned resource
canon_spelling (trees.resource_rep resource) = 0x04 ∷ shortest_unsigned resource

-- What is imported (`externdesc`).
abbrev pub desc_spelling : ExternDesc → List ℕ
desc_spelling (descs.Func ty) = 0x01 ∷ shortest_unsigned ty
desc_spelling (descs.Instance ty) = 0x05 ∷ shortest_unsigned ty

-- An import: its name, what it is (`import`).
abbrev pub import_spelling : Import → List ℕ
import_spelling i = extern_name_spelling i.name ++ desc_spelling i.desc

-- What a component exports (`sort`).
abbrev pub export_sort_code : ExportSort → ℕ
export_sort_code export_sorts.Func = 0x01
export_sort_code export_sorts.Instance = 0x05

-- An export: its name, the sort, the index, that nothing describes it (`export`).
abbrev pub export_spelling : Export → List ℕ
export_spelling e = extern_name_spelling e.name
    ++ (export_sort_code e.sort ∷ (shortest_unsigned e.index ++ (0x00 ∷ [])))

-- The contents of a section ("Component Definitions").
abbrev pub contents_spelling : SectionTree → List ℕ
contents_spelling (trees.custom name bytes) = blob_spelling name ++ bytes
contents_spelling (trees.core_module bytes) = bytes
contents_spelling (trees.core_instances items) = vec_spelling core_instance_spelling items
contents_spelling (trees.instances items) = vec_spelling instance_spelling items
contents_spelling (trees.aliases items) = vec_spelling alias_spelling items
contents_spelling (trees.types items) = vec_spelling def_spelling items
contents_spelling (trees.canons items) = vec_spelling canon_spelling items
contents_spelling (trees.imports items) = vec_spelling import_spelling items
contents_spelling (trees.exports items) = vec_spelling export_spelling items

-- The id of a section ("Component Definitions").
abbrev pub section_id : SectionTree → ℕ
section_id (trees.custom name bytes) = 0x00
section_id (trees.core_module bytes) = 0x01
section_id (trees.core_instances items) = 0x02
section_id (trees.instances items) = 0x05
section_id (trees.aliases items) = 0x06
section_id (trees.types items) = 0x07
section_id (trees.canons items) = 0x08
section_id (trees.imports items) = 0x0a
section_id (trees.exports items) = 0x0b

-- A section: its id, the size of its contents in bytes, the contents ("Component Definitions").
abbrev pub section_spelling : SectionTree → List ℕ
section_spelling s = section_id s ∷ blob_spelling (contents_spelling s)

-- A file: the preamble, and the sections in order.
abbrev pub spelling : List SectionTree → List ℕ
spelling c = COMPONENT_PREAMBLE ++ flat_map section_spelling c
