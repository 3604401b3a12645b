-- What bytes are read as: the plain component of the file that they spell, or the first fault.
use Rattle.std.specs.Prelude.{◌≡◌, ◌⊎◌, ℕ, ◌+◌, List, length, Result, Ok, Err}
use Rattle.cm_binary_grammar.specs.declared.fault.End.TheVariants as end
use Rattle.cm_binary_grammar.specs.declared.fault.Fault.{Fault}
use Rattle.cm_binary_grammar.specs.Faults.{and_then, flaw}
use Rattle.cm_binary_model.specs.Limits.{within_limits}
use Rattle.cm_binary_model.specs.Trees.{SectionTree}
use Rattle.cm_binary_forms.specs.declared.fault.DecodeFault.{DecodeFault}
use Rattle.cm_binary_forms.specs.declared.fault.DecodeReason.{DecodeReason}
use Rattle.cm_binary_forms.specs.declared.fault.DecodeReason.TheVariants.{Memory, Truncated}
use Rattle.cm_shims_plain.specs.File.{wide_file}
use Rattle.cm_shims_plain.specs.Trees.{WideSectionTree}
use Rattle.cm_shims_plain.specs.declared.fault.ShimFault.{ShimFault}
use Rattle.cm_shims_plain.specs.declared.fault.ShimFault.TheVariants as faults
use Rattle.cm_shims_plain.specs.declared.reading.Shimmed.{Shimmed}
use Rattle.cm_shims_plain.specs.declared.wants.Want.{Want}
use Rattle.cm_shims_plain.specs.Origins.{Origin, origins_of}
use Rattle.cm_shims_plain.specs.Plain.{plain}
use Rattle.cm_shims_plain.specs.Steps.{or_fault}

-- A plain component with what shims want of its types, and where its sections come from; or a
-- fault.
abbrev pub Outcome : Type 0
Outcome = Result (List SectionTree × List Want × List Origin) ShimFault

-- What was answered.
abbrev pub outcome : Result Shimmed ShimFault → Outcome
outcome (Ok s) = Ok (s.component, s.wants.items, origins_of s.places)
outcome (Err f) = Err f

-- That memory was refused.
abbrev pub memory_fault : ShimFault
memory_fault = faults.Decode (record { at = 0; reason = Memory })

abbrev pub IsMemory : Result Shimmed ShimFault → Type 0
IsMemory answer = answer ≡ Err memory_fault

-- What a file with these sections comes to: its plain component, within the limits of files.
abbrev pub component_of : List WideSectionTree → Outcome
component_of file = and_then (or_fault faults.Plain (plain file))
    (λ p. and_then (or_fault faults.Limit (within_limits p.sections))
    (λ c. Ok (c, p.wants, p.origins)))

-- The bytes are no file that may have shims, and this is their first fault.
abbrev pub WideFirstFault : List ℕ → DecodeFault → Type 0
WideFirstFault bytes f = (left : ℕ) × (f.at + left ≡ length bytes)
    × wide_file.Faulty (end.Cut Truncated) bytes (flaw left f.reason)

-- What bytes are read as: what the file comes to that they spell, or their first fault.
abbrev pub IsReadAs : List ℕ → Outcome → Type 0
IsReadAs bytes answer =
    ((file : List WideSectionTree) × wide_file.Spells file bytes × (answer ≡ component_of file))
    ⊎ ((f : DecodeFault) × WideFirstFault bytes f × (answer ≡ Err (faults.Decode f)))

-- The answer is what reading comes to, unless memory was refused.
abbrev pub ComesTo : List ℕ → Result Shimmed ShimFault
    → Result (List WideSectionTree) (Fault DecodeReason) → Type 0
ComesTo bytes answer (Ok file) = IsMemory answer ⊎ (outcome answer ≡ component_of file)
ComesTo bytes answer (Err f) = IsMemory answer
    ⊎ ((at : ℕ) × (at + f.left ≡ length bytes)
    × (outcome answer ≡ Err (faults.Decode (record { at = at; reason = f.reason }))))
