-- The bytes that name forms (Binary.md), place by place. A byte of a form that is not carried is
-- Unsupported; every byte that names no form at its place is UnknownCode.
use Rattle.std.specs.Prelude.{ℕ, nat_le, ◌==◌, ◌&&◌, ◌||◌, Bool, Result, Ok, Err, if◌then◌else◌}
use Rattle.cm_types.specs.declared.def_types.PrimValType.{PrimValType}
use Rattle.cm_types.specs.declared.def_types.PrimValType.TheVariants as prim_val_types
use Rattle.cm_binary_model.specs.declared.instances.CoreSort.{CoreSort}
use Rattle.cm_binary_model.specs.declared.instances.CoreSort.TheVariants as core_sorts
use Rattle.cm_binary_model.specs.declared.instances.InstanceExportSort.{InstanceExportSort}
use Rattle.cm_binary_model.specs.declared.instances.InstanceExportSort.TheVariants as instance_sorts
use Rattle.cm_binary_model.specs.declared.externs.ExportSort.{ExportSort}
use Rattle.cm_binary_model.specs.declared.externs.ExportSort.TheVariants as export_sorts
use Rattle.cm_binary_forms.specs.declared.fault.DecodeReason.{DecodeReason}
use Rattle.cm_binary_forms.specs.declared.fault.DecodeReason.TheVariants.{UnknownCode, Unsupported}
use Rattle.cm_binary_forms.specs.declared.fault.Feature.TheVariants as features
use Rattle.cm_binary_forms.specs.declared.codes.SectionKind.{SectionKind}
use Rattle.cm_binary_forms.specs.declared.codes.SectionKind.TheVariants as kinds
use Rattle.cm_binary_forms.specs.declared.codes.CoreInstanceForm.{CoreInstanceForm}
use Rattle.cm_binary_forms.specs.declared.codes.CoreInstanceForm.TheVariants as forms
use Rattle.cm_binary_forms.specs.declared.codes.InstanceForm.{InstanceForm}
use Rattle.cm_binary_forms.specs.declared.codes.InstanceForm.TheVariants as instance_forms
use Rattle.cm_binary_forms.specs.declared.codes.AliasSort.{AliasSort}
use Rattle.cm_binary_forms.specs.declared.codes.AliasSort.TheVariants as alias_sorts
use Rattle.cm_binary_forms.specs.declared.codes.CoreAliasTarget.{CoreAliasTarget}
use Rattle.cm_binary_forms.specs.declared.codes.CoreAliasTarget.TheVariants as core_targets
use Rattle.cm_binary_forms.specs.declared.codes.FuncAliasTarget.{FuncAliasTarget}
use Rattle.cm_binary_forms.specs.declared.codes.FuncAliasTarget.TheVariants as func_targets
use Rattle.cm_binary_forms.specs.declared.codes.TypeAliasTarget.{TypeAliasTarget}
use Rattle.cm_binary_forms.specs.declared.codes.TypeAliasTarget.TheVariants as type_targets
use Rattle.cm_binary_forms.specs.declared.codes.ValueForm.{ValueForm}
use Rattle.cm_binary_forms.specs.declared.codes.ValueForm.TheVariants as value_forms
use Rattle.cm_binary_forms.specs.declared.codes.OptionalForm.{OptionalForm}
use Rattle.cm_binary_forms.specs.declared.codes.OptionalForm.TheVariants as optional_forms
use Rattle.cm_binary_forms.specs.declared.codes.TypeForm.{TypeForm}
use Rattle.cm_binary_forms.specs.declared.codes.TypeForm.TheVariants as type_forms
use Rattle.cm_binary_forms.specs.declared.codes.DeclaredTypeForm.{DeclaredTypeForm}
use Rattle.cm_binary_forms.specs.declared.codes.DeclaredTypeForm.TheVariants as declared_type_forms
use Rattle.cm_binary_forms.specs.declared.codes.DeclarationForm.{DeclarationForm}
use Rattle.cm_binary_forms.specs.declared.codes.DeclarationForm.TheVariants as declaration_forms
use Rattle.cm_binary_forms.specs.declared.codes.OuterTypeTarget.{OuterTypeTarget}
use Rattle.cm_binary_forms.specs.declared.codes.OuterTypeTarget.TheVariants as outer_targets
use Rattle.cm_binary_forms.specs.declared.codes.DeclaredDescForm.{DeclaredDescForm}
use Rattle.cm_binary_forms.specs.declared.codes.DeclaredDescForm.TheVariants as declared_descs
use Rattle.cm_binary_forms.specs.declared.codes.TypeBoundForm.{TypeBoundForm}
use Rattle.cm_binary_forms.specs.declared.codes.TypeBoundForm.TheVariants as bound_forms
use Rattle.cm_binary_forms.specs.declared.codes.ResultForm.{ResultForm}
use Rattle.cm_binary_forms.specs.declared.codes.ResultForm.TheVariants as result_forms
use Rattle.cm_binary_forms.specs.declared.codes.CanonForm.{CanonForm}
use Rattle.cm_binary_forms.specs.declared.codes.CanonForm.TheVariants as canon_forms
use Rattle.cm_binary_forms.specs.declared.codes.OptionForm.{OptionForm}
use Rattle.cm_binary_forms.specs.declared.codes.OptionForm.TheVariants as option_forms
use Rattle.cm_binary_forms.specs.declared.codes.DescForm.{DescForm}
use Rattle.cm_binary_forms.specs.declared.codes.DescForm.TheVariants as desc_forms
use Rattle.cm_binary_forms.specs.declared.codes.NoDescription.{NoDescription}
use Rattle.cm_binary_forms.specs.declared.codes.NoDescription.TheVariants as descriptions

-- b is one of the bytes from low up to high.
abbrev pub is_from : ℕ → ℕ → ℕ → Bool
is_from low high b = nat_le low b && nat_le b high

-- The ids of sections ("Component Definitions").
abbrev pub section_kind : ℕ → Result SectionKind DecodeReason
section_kind b =
    if b == 0x00 then Ok kinds.Custom
    else if b == 0x01 then Ok kinds.CoreModule
    else if b == 0x02 then Ok kinds.CoreInstances
    else if b == 0x03 then Err (Unsupported features.CoreTypes)
    else if b == 0x04 then Err (Unsupported features.NestedComponents)
    else if b == 0x05 then Ok kinds.Instances
    else if b == 0x06 then Ok kinds.Aliases
    else if b == 0x07 then Ok kinds.Types
    else if b == 0x08 then Ok kinds.Canons
    else if b == 0x09 then Err (Unsupported features.Start)
    else if b == 0x0a then Ok kinds.Imports
    else if b == 0x0b then Ok kinds.Exports
    else Err UnknownCode

-- The forms of a core instance ("Core Instance Definitions").
abbrev pub core_instance_form : ℕ → Result CoreInstanceForm DecodeReason
core_instance_form b =
    if b == 0x00 then Ok forms.Instantiate
    else if b == 0x01 then Ok forms.Exports
    else Err UnknownCode

-- The core sorts ("Core Instance Definitions"): function, table, memory, global; type, module,
-- instance.
abbrev pub core_sort : ℕ → Result CoreSort DecodeReason
core_sort b =
    if b == 0x00 then Ok core_sorts.Func
    else if b == 0x01 then Ok core_sorts.Table
    else if b == 0x02 then Ok core_sorts.Memory
    else if b == 0x03 then Ok core_sorts.Global
    else if is_from 0x10 0x12 b then Err (Unsupported features.CoreSort)
    else Err UnknownCode

-- The forms of an instance ("Instance Definitions").
abbrev pub instance_form : ℕ → Result InstanceForm DecodeReason
instance_form b =
    if b == 0x00 then Err (Unsupported features.InstanceOfComponent)
    else if b == 0x01 then Ok instance_forms.Exports
    else Err UnknownCode

-- The sorts that an instance exports ("Instance Definitions").
abbrev pub instance_export_sort : ℕ → Result InstanceExportSort DecodeReason
instance_export_sort b =
    if b == 0x01 then Ok instance_sorts.Func
    else if b == 0x03 then Ok instance_sorts.Type
    else if is_from 0x00 0x05 b then Err (Unsupported features.Sort)
    else Err UnknownCode

-- The sorts in an alias ("Instance Definitions"): core, function, value, type, component, instance.
abbrev pub alias_sort : ℕ → Result AliasSort DecodeReason
alias_sort b =
    if b == 0x00 then Ok alias_sorts.Core
    else if b == 0x01 then Ok alias_sorts.Func
    else if b == 0x03 then Ok alias_sorts.Type
    else if b == 0x05 then Ok alias_sorts.Instance
    else if b == 0x02 || b == 0x04 then Err (Unsupported features.Sort)
    else Err UnknownCode

-- Why the target of an alias is refused ("Alias Definitions"): an export of an instance, one of a
-- core instance or an outer definition that the sort of the alias cannot have; else no target.
abbrev pub no_alias_target : ℕ → DecodeReason
no_alias_target b = if is_from 0x00 0x02 b then Unsupported features.AliasTarget else UnknownCode

-- The target of an alias whose sort is a core sort ("Alias Definitions").
abbrev pub core_alias_target : ℕ → Result CoreAliasTarget DecodeReason
core_alias_target b =
    if b == 0x01 then Ok core_targets.CoreInstanceExport else Err (no_alias_target b)

-- The target of an alias of a function ("Alias Definitions").
abbrev pub func_alias_target : ℕ → Result FuncAliasTarget DecodeReason
func_alias_target b =
    if b == 0x00 then Ok func_targets.InstanceExport else Err (no_alias_target b)

-- The target of an alias of a type ("Alias Definitions").
abbrev pub type_alias_target : ℕ → Result TypeAliasTarget DecodeReason
type_alias_target b =
    if b == 0x00 then Ok type_targets.InstanceExport
    else if b == 0x02 then Ok type_targets.OuterType
    else Err (no_alias_target b)

-- The primitive value types ("Type Definitions"); 76 and 75 are floats.
abbrev pub prim_val_type : ℕ → Result PrimValType DecodeReason
prim_val_type b =
    if b == 0x7f then Ok prim_val_types.Bool
    else if b == 0x7e then Ok prim_val_types.S8
    else if b == 0x7d then Ok prim_val_types.U8
    else if b == 0x7c then Ok prim_val_types.S16
    else if b == 0x7b then Ok prim_val_types.U16
    else if b == 0x7a then Ok prim_val_types.S32
    else if b == 0x79 then Ok prim_val_types.U32
    else if b == 0x78 then Ok prim_val_types.S64
    else if b == 0x77 then Ok prim_val_types.U64
    else if b == 0x76 || b == 0x75 then Err (Unsupported features.FloatType)
    else if b == 0x74 then Ok prim_val_types.Char
    else if b == 0x73 then Ok prim_val_types.String
    else Err UnknownCode

-- What the answer of a table comes to where it stands for a case of another one.
abbrev pub as_case : {A B : Type 0} → (A → B) → Result A DecodeReason → Result B DecodeReason
as_case f (Ok x) = Ok (f x)
as_case f (Err reason) = Err reason

-- The forms of a value type that is defined ("Type Definitions").
abbrev pub value_form : ℕ → Result ValueForm DecodeReason
value_form b =
    if b == 0x72 then Ok value_forms.Record
    else if b == 0x71 then Ok value_forms.Variant
    else if b == 0x70 then Ok value_forms.List
    else if b == 0x6f then Ok value_forms.Tuple
    else if b == 0x6e then Ok value_forms.Flags
    else if b == 0x6d then Ok value_forms.Enum
    else if b == 0x6b then Ok value_forms.Option
    else if b == 0x6a then Ok value_forms.Result
    else if b == 0x69 then Ok value_forms.Own
    else if b == 0x68 then Ok value_forms.Borrow
    else if b == 0x67 then Ok value_forms.FixedList
    else as_case value_forms.Primitive (prim_val_type b)

-- The forms of a type ("Type Definitions").
abbrev pub type_form : ℕ → Result TypeForm DecodeReason
type_form b =
    if b == 0x40 then Ok type_forms.Func
    else if b == 0x3f then Ok type_forms.Resource
    else if b == 0x41 then Err (Unsupported features.TypeDefinition)
    else if b == 0x42 then Ok type_forms.Instance
    else as_case type_forms.Value (value_form b)

-- The forms of a type in the type of an instance ("Type Definitions"): no resource, no component
-- and no instance.
abbrev pub declared_type_form : ℕ → Result DeclaredTypeForm DecodeReason
declared_type_form b =
    if b == 0x40 then Ok declared_type_forms.Func
    else if b == 0x3f || b == 0x41 || b == 0x42 then Err (Unsupported features.DeclaredType)
    else as_case declared_type_forms.Value (value_form b)

-- What the type of an instance declares ("Type Definitions", `instancedecl`); 00 is a core type.
abbrev pub declaration_form : ℕ → Result DeclarationForm DecodeReason
declaration_form b =
    if b == 0x00 then Err (Unsupported features.Declaration)
    else if b == 0x01 then Ok declaration_forms.Type
    else if b == 0x02 then Ok declaration_forms.Alias
    else if b == 0x04 then Ok declaration_forms.Export
    else Err UnknownCode

-- The target of an alias of a type in the type of an instance ("Alias Definitions").
abbrev pub outer_type_target : ℕ → Result OuterTypeTarget DecodeReason
outer_type_target b =
    if b == 0x02 then Ok outer_targets.OuterType else Err (no_alias_target b)

-- The descriptions of what the instances of a type export ("Import and Export Definitions").
abbrev pub declared_desc_form : ℕ → Result DeclaredDescForm DecodeReason
declared_desc_form b =
    if b == 0x01 then Ok declared_descs.Func
    else if b == 0x03 then Ok declared_descs.Type
    else if is_from 0x00 0x05 b then Err (Unsupported features.Description)
    else Err UnknownCode

-- What is known of a type ("Import and Export Definitions", `typebound`).
abbrev pub type_bound_form : ℕ → Result TypeBoundForm DecodeReason
type_bound_form b =
    if b == 0x00 then Ok bound_forms.Equal
    else if b == 0x01 then Ok bound_forms.SubResource
    else Err UnknownCode

-- Whether something is there ("Component Definitions", `<T>?`).
abbrev pub optional_form : ℕ → Result OptionalForm DecodeReason
optional_form b =
    if b == 0x00 then Ok optional_forms.Absent
    else if b == 0x01 then Ok optional_forms.Present
    else Err UnknownCode

-- Whether a function has a result ("Type Definitions").
abbrev pub result_form : ℕ → Result ResultForm DecodeReason
result_form b =
    if b == 0x00 then Ok result_forms.One
    else if b == 0x01 then Ok result_forms.Zero
    else Err UnknownCode

-- The canonical definitions ("Canonical Definitions").
abbrev pub canon_form : ℕ → Result CanonForm DecodeReason
canon_form b =
    if b == 0x00 then Ok canon_forms.Lift
    else if b == 0x01 then Ok canon_forms.Lower
    else if b == 0x02 then Ok canon_forms.ResourceNew
    else if b == 0x03 then Ok canon_forms.ResourceDrop
    else if b == 0x04 then Ok canon_forms.ResourceRep
    else Err UnknownCode

-- The canonical options ("Canonical Definitions").
abbrev pub option_form : ℕ → Result OptionForm DecodeReason
option_form b =
    if b == 0x00 then Ok option_forms.Utf8
    else if b == 0x01 then Ok option_forms.Utf16
    else if b == 0x02 then Ok option_forms.Latin1Utf16
    else if b == 0x03 then Ok option_forms.Memory
    else if b == 0x04 then Ok option_forms.Realloc
    else if b == 0x05 then Ok option_forms.PostReturn
    else Err UnknownCode

-- The descriptions of imports ("Import and Export Definitions").
abbrev pub desc_form : ℕ → Result DescForm DecodeReason
desc_form b =
    if b == 0x01 then Ok desc_forms.Func
    else if b == 0x05 then Ok desc_forms.Instance
    else if is_from 0x00 0x05 b then Err (Unsupported features.Description)
    else Err UnknownCode

-- The sorts of exports ("Import and Export Definitions").
abbrev pub export_sort : ℕ → Result ExportSort DecodeReason
export_sort b =
    if b == 0x01 then Ok export_sorts.Func
    else if b == 0x05 then Ok export_sorts.Instance
    else if is_from 0x00 0x05 b then Err (Unsupported features.Sort)
    else Err UnknownCode

-- Whether an export has a description ("Import and Export Definitions").
abbrev pub export_desc : ℕ → Result NoDescription DecodeReason
export_desc b =
    if b == 0x00 then Ok descriptions.Absent
    else if b == 0x01 then Err (Unsupported features.ExportDescription)
    else Err UnknownCode
