-- Whether the component of a file fits a world of a text.
use Rattle.std.specs.Prelude.{◌≡◌, ℕ, List, [], ◌∷◌, Option, None, Some, Result, Ok, Err}
use Rattle.std.specs.Str.{IsUtf8}
use Rattle.cm_types.specs.Signatures.{SignatureTy}
use Rattle.cm_shims.specs.Files.{IsFileFault, Reading}
use Rattle.cm_tool_files.specs.Conforming.{ConformsTo, IsUnfit}
use Rattle.cm_tool_files.specs.declared.unfit.UnfitReason.{UnfitReason}
use Rattle.cm_tool_files.specs.declared.unfit.UnfitReason.TheVariants as unfit
use Rattle.cm_wit_conforms.specs.Faults.{conform_reason_number}
use Rattle.cm_wit_conforms.specs.declared.fault.ConformFault.{ConformFault}
use Rattle.cm_wit_conforms.specs.declared.fault.ConformList.{ConformList}
use Rattle.cm_wit_conforms.specs.declared.fault.ConformList.TheVariants as list
use Rattle.cm_wit_tokens.specs.Reasons.{reason_number}
use Rattle.cm_wit_worlds.specs.Faults.{world_fault_number}
use Rattle.huxarte_c_components.specs.declared.conforming.FitRefusal.{FitRefusal}
use Rattle.huxarte_c_components.specs.declared.conforming.FitRefusal.TheVariants as refusal
use Rattle.huxarte_c_components.specs.Showing.{signature_of}
use Rattle.huxarte_c_components.specs.Faults.{of_files}
use Rattle.huxarte_c_components.specs.Sound.{IsRead}
use Rattle.huxarte_c_calls.specs.declared.kinds.HuxKind.{HuxKind}
use Rattle.huxarte_c_calls.specs.declared.kinds.HuxKind.TheVariants as kind
use Rattle.huxarte_c_calls.specs.declared.verdicts.HuxVerdict.{HuxVerdict}
use Rattle.huxarte_c_calls.specs.Verdicts.{at_item, of_kind, verdict_by}

-- ---- in numbers

-- whose import or export does not fit
abbrev pub kind_of_list : ConformList → HuxKind
kind_of_list list.WorldExports = kind.WorldExport
kind_of_list list.HaveImports = kind.OwnImport

-- the number of an item of an instance, or of none
abbrev pub number_of_item : Option ℕ → ℕ
number_of_item None = 18446744073709551615
number_of_item (Some n) = n

-- why a signature does not fit a world
abbrev pub of_conform : ConformFault → HuxVerdict
of_conform f = at_item (kind_of_list f.item.list) (conform_reason_number f.reason) 0
    f.item.place (number_of_item f.item.item)

-- why a component does not fit a world
abbrev pub of_unfit : UnfitReason → HuxVerdict
of_unfit (unfit.Wit f) = at_item kind.Wit (reason_number f.reason) 0 f.at 0
of_unfit (unfit.World f) = at_item kind.World (world_fault_number f) 0 0 0
of_unfit (unfit.Signature f) = of_conform f
of_unfit unfit.Memory = of_kind kind.Memory

-- why the component of a file does not
abbrev pub of_fit : FitRefusal → HuxVerdict
of_fit (refusal.Files f) = of_files f
of_fit refusal.NoText = of_kind kind.NoText
of_fit (refusal.Unfit r) = of_unfit r

-- ---- what fits

-- the component of a file fits the world of this full name of a text
abbrev pub Fits : List ℕ → List ℕ → List ℕ → Type 0
Fits bytes wit world = (r : Reading) × IsRead bytes r × ConformsTo wit world (signature_of r)

-- a signature does not fit the world of a text, or the text or the name is not UTF-8
abbrev pub IsUnfitSignature : List ℕ → List ℕ → SignatureTy → FitRefusal → Type 0
IsUnfitSignature wit world have (refusal.Files f) = ⊥
IsUnfitSignature wit world have refusal.NoText = (IsUtf8 wit × IsUtf8 world) → ⊥
IsUnfitSignature wit world have (refusal.Unfit e) = IsUnfit wit world have e

-- why the component of a file does not fit: the file's first fault, or else that
abbrev pub IsUnfitRefusal : List ℕ → List ℕ → List ℕ → FitRefusal → Type 0
IsUnfitRefusal bytes wit world (refusal.Files f) = IsFileFault (bytes ∷ []) f
IsUnfitRefusal bytes wit world r =
    (k : Reading) × IsRead bytes k × IsUnfitSignature wit world (signature_of k) r

-- whether a component fits
abbrev pub IsFitOutcome : List ℕ → List ℕ → List ℕ → Result (Unit {0}) FitRefusal → Type 0
IsFitOutcome bytes wit world (Ok _) = Fits bytes wit world
IsFitOutcome bytes wit world (Err r) = IsUnfitRefusal bytes wit world r

abbrev pub IsFitVerdict : List ℕ → List ℕ → List ℕ → HuxVerdict → Type 0
IsFitVerdict bytes wit world v =
    (o : Result (Unit {0}) FitRefusal) × IsFitOutcome bytes wit world o
    × (v ≡ verdict_by of_fit o)
