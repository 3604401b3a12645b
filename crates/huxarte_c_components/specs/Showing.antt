-- What a component imports and exports, as a text in a buffer.
use Rattle.std.specs.Prelude.{◌≡◌, ◌⊎◌, ◌<◌, ⊤, ℕ, List, [], ◌∷◌, length}
use Rattle.cm_types.specs.Signatures.{SignatureTy}
use Rattle.cm_validate_model.specs.Spaces.{spaces_of}
use Rattle.cm_validate.specs.Exports.{signature_in}
use Rattle.cm_shims.specs.Files.{IsFileFault, Reading, component_in}
use Rattle.cm_tool_show.specs.Faults.{show_fault_number}
use Rattle.cm_tool_show.specs.Shown.{shown}
use Rattle.cm_tool_show.specs.declared.fault.ShowFault.TheVariants as fault
use Rattle.cm_tool_show.specs.declared.page.TheConstants.{MAX_SHOWN}
use Rattle.huxarte_c_components.specs.declared.showing.ShowRefusal.{ShowRefusal}
use Rattle.huxarte_c_components.specs.declared.showing.ShowRefusal.TheVariants as refusal
use Rattle.huxarte_c_components.specs.Faults.{of_files}
use Rattle.huxarte_c_components.specs.Sound.{IsRead}
use Rattle.huxarte_c_calls.specs.declared.kinds.HuxKind.TheVariants as kind
use Rattle.huxarte_c_calls.specs.declared.verdicts.HuxVerdict.{HuxVerdict}
use Rattle.huxarte_c_calls.specs.Texts.{IsText, written}
use Rattle.huxarte_c_calls.specs.Verdicts.{at_item, fine}

-- what is wrong, in numbers
abbrev pub of_show : ShowRefusal → HuxVerdict
of_show (refusal.Files f) = of_files f
of_show (refusal.Show f) = at_item kind.Show (show_fault_number f) 0 0 0

-- what a file imports and exports that is read so
abbrev pub signature_of : Reading → SignatureTy
signature_of r = signature_in (spaces_of (component_in r))

-- this text shows the component of a file
abbrev pub IsShown : List ℕ → List ℕ → Type 0
IsShown bytes text = (r : Reading) × IsRead bytes r × (text ≡ shown (signature_of r))

-- why a signature is not shown: its text is too long, or there is no memory
abbrev pub IsUnshown : SignatureTy → ShowRefusal → Type 0
IsUnshown have (refusal.Files f) = ⊥
IsUnshown have (refusal.Show fault.TooLong) = MAX_SHOWN < length (shown have)
IsUnshown have (refusal.Show fault.Memory) = ⊤

-- why the component of a file is not shown: the file's first fault, or the text's
abbrev pub IsShowRefusal : List ℕ → ShowRefusal → Type 0
IsShowRefusal bytes (refusal.Files f) = IsFileFault (bytes ∷ []) f
IsShowRefusal bytes (refusal.Show f) =
    (r : Reading) × IsRead bytes r × IsUnshown (signature_of r) (refusal.Show f)

-- a verdict and a buffer: the component's text, or a refusal
abbrev pub IsShownVerdict : List ℕ → HuxVerdict → List ℕ → ℕ → List ℕ → Type 0
IsShownVerdict bytes v room wanted after =
    ((text : List ℕ) × IsShown bytes text × (v ≡ fine)
    × (wanted ≡ length text) × (after ≡ written room text))
    ⊎ ((r : ShowRefusal) × IsShowRefusal bytes r × (v ≡ of_show r) × IsText room wanted after)
