-- Why a text gives no type.
use Rattle.std.specs.Prelude.{◌≡◌, ℕ, Bool, false, ◌&&◌, List, Option, None, IfSome}
use Rattle.cm_types.specs.Types.{Ty, FuncTy}
use Rattle.cm_types.specs.Limits.{IsWithinLimits}
use Rattle.cm_types.specs.Spellable.{is_spellable, are_spellable, is_spellable_payload}
use Rattle.cm_types.specs.TypeTrees.{TypedLabel, fields_from}
use Rattle.cm_types_arena.specs.TypeDefs.{params_type}
use Rattle.cm_wit_meanings.specs.declared.fault.MeaningFault.{MeaningFault}
use Rattle.cm_wit_meanings.specs.declared.fault.MeaningFault.TheVariants as fault
use Rattle.cm_wit_meanings.specs.Meanings.{record_of}

-- the numbers of the faults
abbrev pub meaning_fault_number : MeaningFault → ℕ
meaning_fault_number fault.NoSuchType = 1
meaning_fault_number fault.TooLarge = 2
meaning_fault_number fault.NotSpellable = 3
meaning_fault_number fault.Memory = 4

-- Why what a text stands for cannot be had: there is nothing; or it is over the limits, or no file
-- can spell it, if it stands for something. Where memory ran out nothing is said.
abbrev pub IsFaultOf : {A : Type 0} → (A → Type 0) → (A → Bool) → Option A → MeaningFault → Type 0
IsFaultOf IsWithin spelled meant fault.NoSuchType = meant ≡ None
IsFaultOf IsWithin spelled meant fault.TooLarge = IfSome meant (λ x. ¬ (IsWithin x))
IsFaultOf IsWithin spelled meant fault.NotSpellable = IfSome meant (λ x. spelled x ≡ false)
IsFaultOf IsWithin spelled meant fault.Memory = Unit {0}

-- why a type cannot be had
abbrev pub IsTypeFault : Option Ty → MeaningFault → Type 0
IsTypeFault meant f = IsFaultOf IsWithinLimits is_spellable meant f

-- why several things cannot be had together, as the parts of the type that is made of them
abbrev pub IsFaultIn : {A : Type 0} → (A → Ty) → Option A → MeaningFault → Type 0
IsFaultIn made meant f =
    IsFaultOf (λ x. IsWithinLimits (made x)) (λ x. is_spellable (made x)) meant f

-- why fields cannot be had, of which there may be none
abbrev pub AreFieldsFault : Option (List TypedLabel) → MeaningFault → Type 0
AreFieldsFault meant f =
    IsFaultOf (λ fs. IsWithinLimits (record_of fs)) (λ fs. are_spellable (fields_from fs)) meant f

-- why a payload or a result cannot be had, if there is one
abbrev pub IsPayloadFault : Option (Option Ty) → MeaningFault → Type 0
IsPayloadFault meant f = IsFaultOf (λ p. IfSome p IsWithinLimits) is_spellable_payload meant f

-- The type of a function is within the limits: its parameters as the fields of a tuple, and its
-- result (this project's own choice).
abbrev pub IsFuncWithin : FuncTy → Type 0
IsFuncWithin f = IsWithinLimits (params_type f) × IfSome f.result IsWithinLimits

-- whether a file can spell each type in it
abbrev pub is_func_spellable : FuncTy → Bool
is_func_spellable f = are_spellable f.params && is_spellable_payload f.result

-- why the type of a function cannot be had
abbrev pub IsFuncFault : Option FuncTy → MeaningFault → Type 0
IsFuncFault meant f = IsFaultOf IsFuncWithin is_func_spellable meant f
