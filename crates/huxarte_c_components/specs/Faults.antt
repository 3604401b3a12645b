-- What is wrong with files, and with what is asked of a component, in numbers (this project's own
-- choice; the numbers of the reasons are those of docs/RULES.md).
use Rattle.std.specs.Prelude.{ℕ}
use Rattle.cm_binary_forms.specs.Reasons as decoding
use Rattle.cm_binary_model.specs.Limits as limits
use Rattle.cm_shims.specs.Reasons as fitting
use Rattle.cm_shims.specs.declared.files_fault.FilesFault.{FilesFault}
use Rattle.cm_shims.specs.declared.files_fault.FilesFault.TheVariants as files
use Rattle.cm_shims_plain.specs.Reasons as shims
use Rattle.cm_shims_plain.specs.declared.fault.PlainFault.{PlainFault}
use Rattle.cm_shims_plain.specs.declared.fault.ShimFault.{ShimFault}
use Rattle.cm_shims_plain.specs.declared.fault.ShimFault.TheVariants as reading
use Rattle.cm_validate_model.specs.ReasonWords as validity
use Rattle.huxarte_c_calls.specs.Faults.{of_call}
use Rattle.huxarte_c_components.specs.declared.fault.ComponentFault.{ComponentFault}
use Rattle.huxarte_c_components.specs.declared.fault.ComponentFault.TheVariants as fault
use Rattle.huxarte_c_calls.specs.declared.kinds.HuxKind.TheVariants as kind
use Rattle.huxarte_c_calls.specs.declared.verdicts.HuxVerdict.{HuxVerdict}
use Rattle.huxarte_c_calls.specs.Verdicts.{at_item, of_kind}

-- what is wrong with a shim of a file of this number
abbrev pub of_plain : ℕ → PlainFault → HuxVerdict
of_plain file f = at_item kind.Shim (shims.shim_reason_number f.reason) file f.section f.item

-- what is wrong with a file of this number that is not read
abbrev pub of_shims : ℕ → ShimFault → HuxVerdict
of_shims file (reading.Decode f) =
    at_item kind.Decode (decoding.reason_number f.reason) file f.at 0
of_shims file (reading.Plain f) = of_plain file f
of_shims file (reading.Limit f) = at_item kind.Limit (limits.limit_number f) file 0 0

-- what is wrong with files
abbrev pub of_files : FilesFault → HuxVerdict
of_files (files.Read k f) = of_shims k f
of_files (files.Component k f) =
    at_item kind.Invalid (validity.reason_number f.reason) k f.section f.item
of_files (files.Shims k f) = at_item kind.Unfit (fitting.fit_reason_number f.reason) k f.want 0
of_files files.Memory = of_kind kind.Memory

-- what is wrong with what is asked of a component
abbrev pub of_component : ComponentFault → HuxVerdict
of_component (fault.Files f) = of_files f
of_component fault.NoFunc = of_kind kind.NoFunc
of_component fault.NoPart = of_kind kind.NoPart
of_component (fault.Call f) = of_call f
of_component fault.Memory = of_kind kind.Memory
