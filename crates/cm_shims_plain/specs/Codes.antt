-- The bytes that name forms (Binary.md), where a file that may have shims has more of them. A byte
-- of a form that is not carried is Unsupported; every byte that names no form is UnknownCode.
use Rattle.std.specs.Prelude.{ℕ, ◌==◌, ◌||◌, Result, Ok, Err, Option, Some, None, if◌then◌else◌}
use Rattle.cm_binary_forms.specs.declared.fault.DecodeReason.{DecodeReason}
use Rattle.cm_binary_forms.specs.declared.fault.DecodeReason.TheVariants.{UnknownCode, Unsupported}
use Rattle.cm_binary_forms.specs.declared.fault.Feature.TheVariants as features
use Rattle.cm_binary_forms.specs.Codes.{is_from}
use Rattle.cm_shims_plain.specs.declared.codes.InstanceForm.{InstanceForm}
use Rattle.cm_shims_plain.specs.declared.codes.InstanceForm.TheVariants as instance_forms
use Rattle.cm_shims_plain.specs.declared.codes.TypeEquality.{TypeEquality}
use Rattle.cm_shims_plain.specs.declared.codes.TypeEquality.TheVariants as equalities
use Rattle.cm_shims_plain.specs.declared.codes.WideDescForm.{WideDescForm}
use Rattle.cm_shims_plain.specs.declared.codes.WideDescForm.TheVariants as desc_forms
use Rattle.cm_shims_plain.specs.declared.codes.ShimItems.TheVariants as shim_items
use Rattle.cm_shims_plain.specs.declared.codes.ShimKind.{ShimKind}
use Rattle.cm_shims_plain.specs.declared.codes.ShimKind.TheVariants as shim_kinds
use Rattle.cm_shims_plain.specs.declared.codes.WideKind.{WideKind}
use Rattle.cm_shims_plain.specs.declared.codes.WideKind.TheVariants as wide_kinds

-- The forms of an instance ("Instance Definitions").
abbrev pub instance_form : ℕ → Result InstanceForm DecodeReason
instance_form b =
    if b == 0x00 then Ok instance_forms.Instantiate
    else if b == 0x01 then Ok instance_forms.Exports
    else Err UnknownCode

-- What an import describes ("Import and Export Definitions").
abbrev pub wide_desc_form : ℕ → Result WideDescForm DecodeReason
wide_desc_form b =
    if b == 0x01 then Ok desc_forms.Func
    else if b == 0x03 then Ok desc_forms.Type
    else if b == 0x05 then Ok desc_forms.Instance
    else if is_from 0x00 0x05 b then Err (Unsupported features.Description)
    else Err UnknownCode

-- How a type is bound that a file imports (`typebound`): a resource type is not carried.
abbrev pub type_equality : ℕ → Result TypeEquality DecodeReason
type_equality b =
    if b == 0x00 then Ok equalities.Equal
    else if b == 0x01 then Err (Unsupported features.Description)
    else Err UnknownCode

-- The sections of a file that have more forms where it may have shims, by their ids ("Component
-- Definitions").
abbrev pub wide_kind : ℕ → Option WideKind
wide_kind b =
    if b == 0x04 then Some wide_kinds.Shim
    else if b == 0x05 then Some wide_kinds.Instances
    else if b == 0x0a then Some wide_kinds.Imports
    else None

-- The sections of a shim by their ids ("Component Definitions").
abbrev pub shim_kind : ℕ → ShimKind
shim_kind b =
    if b == 0x0a then shim_kinds.Items shim_items.Imports
    else if b == 0x0b then shim_kinds.Items shim_items.Exports
    else if b == 0x00 || b == 0x07 then shim_kinds.Shared
    else shim_kinds.Other

-- Why a section of another id is refused in a shim: a nested component that is no shim.
abbrev pub no_shim_section : ℕ → DecodeReason
no_shim_section b =
    if is_from 0x00 0x0b b then Unsupported features.NestedComponents else UnknownCode
