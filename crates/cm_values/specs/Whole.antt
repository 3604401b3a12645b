-- Whole texts: all of their bytes are one value, and blanks around it.
use Rattle.std.specs.Prelude.{◌≡◌, ℕ, suc, ◌-◌, ◌⊎◌, List, [], ◌∷◌, length, None, Result, Ok, Err}
use Rattle.std.specs.Prelude.{MatchResult}
use Rattle.cm_types.specs.Types.{Ty}
use Rattle.cm_types.specs.Values.{Val}
use Rattle.cm_values.specs.declared.value_fault.Fault.{Fault}
use Rattle.cm_values.specs.declared.value_fault.ValueFault.{ValueFault}
use Rattle.cm_values.specs.declared.value_fault.ValueReason.TheVariants as reason
use Rattle.cm_values.specs.ReadFaults.{flaw, and_then}
use Rattle.cm_values.specs.Grammar.{Grammar, done, ◌>>=◌}
use Rattle.cm_values.specs.Words.{gap}
use Rattle.cm_values.specs.Values.{value}

-- a value, and blanks behind it
abbrev pub spaced : Grammar Val → Grammar Val
spaced g = g >>= λ v. gap >>= λ _. done v

-- A text is a spelling of a value of a type.
abbrev pub Spells : Ty → List ℕ → Val → Type 0
Spells t text v = (spaced (value t)).Spells v text None

-- the value, where nothing is left behind it
abbrev pub to_end : Val → List ℕ → Result Val Fault
to_end v [] = Ok v
to_end v (b ∷ bytes) = Err (flaw (suc (length bytes)) reason.Unexpected)

-- the value that a whole text is, or its first fault
abbrev pub whole : Ty → List ℕ → Result Val Fault
whole t text = and_then ((spaced (value t)).reads text) (λ p. to_end p.0 p.1)

-- the place of a fault, counted from the first byte
abbrev pub placed : ℕ → Result Val Fault → Result Val ValueFault
placed size (Ok v) = Ok v
placed size (Err f) = Err (record { at = size - f.left; reason = f.reason })

abbrev pub text_value : Ty → List ℕ → Result Val ValueFault
text_value t text = placed (length text) (whole t text)

-- A function answered this, seen by view, or that memory was refused.
abbrev pub Answers : {X : Type 0} → (X → Val) → Result Val ValueFault → Result X ValueFault → Type 0
Answers view wanted r =
    MatchResult r (λ x. wanted ≡ Ok (view x)) (λ e. (e.reason ≡ reason.Memory) ⊎ (wanted ≡ Err e))
