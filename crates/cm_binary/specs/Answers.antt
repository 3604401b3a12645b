-- What reading a file answers, want of memory aside.
use Rattle.std.specs.Prelude.{◌≡◌, ◌⊎◌, ℕ, ◌+◌, ◌<◌, List, length, slice_index, Result, Ok, Err}
use Rattle.std.specs.Prelude.{MatchResult}
use Rattle.cm_binary_grammar.specs.declared.fault.Fault.{Fault}
use Rattle.cm_binary_grammar.specs.Faults.{flaw}
use Rattle.cm_binary_model.specs.Trees.{SectionTree}
use Rattle.cm_binary_forms.specs.declared.fault.DecodeFault.{DecodeFault}
use Rattle.cm_binary_forms.specs.declared.fault.DecodeReason.{DecodeReason}
use Rattle.cm_binary_forms.specs.declared.fault.DecodeReason.TheVariants.{Memory}
use Rattle.cm_binary_forms.specs.File.{Spells, FirstFault}

-- The answer is this component, or that memory was refused.
abbrev pub Accepts : Result (List SectionTree) DecodeFault → List SectionTree → Type 0
Accepts answer c = MatchResult answer (λ v. v ≡ c) (λ f. f.reason ≡ Memory)

-- The answer is a fault of this reason at this place, or that memory was refused.
abbrev pub Refuses : Result (List SectionTree) DecodeFault → ℕ → DecodeReason → Type 0
Refuses answer at reason =
    MatchResult answer (λ v. ⊥) (λ f. (f.reason ≡ Memory) ⊎ ((f.at ≡ at) × (f.reason ≡ reason)))

-- The answer is what reading gives, with the place of a fault counted from the front.
abbrev pub Answers : List ℕ → Result (List SectionTree) DecodeFault
    → Result (List SectionTree) (Fault DecodeReason) → Type 0
Answers bytes (Ok c) read = read ≡ Ok c
Answers bytes (Err f) read = (f.reason ≡ Memory)
    ⊎ ((left : ℕ) × (f.at + left ≡ length bytes) × (read ≡ Err (flaw left f.reason)))

-- The numbers of the list are bytes.
abbrev pub AreBytes : List ℕ → Type 0
AreBytes bytes = (i : ℕ) → slice_index bytes i < 256

-- What bytes come to: the component that they spell, or their first fault.
abbrev pub IsAnswer : List ℕ → Result (List SectionTree) DecodeFault → Type 0
IsAnswer bytes (Ok c) = Spells c bytes
IsAnswer bytes (Err f) = FirstFault bytes f.at f.reason

-- Bytes come to this, and to nothing else.
abbrev pub IsOnlyAnswer : List ℕ → Result (List SectionTree) DecodeFault → Type 0
IsOnlyAnswer bytes answer = IsAnswer bytes answer
    × ((other : Result (List SectionTree) DecodeFault) → IsAnswer bytes other → other ≡ answer)
