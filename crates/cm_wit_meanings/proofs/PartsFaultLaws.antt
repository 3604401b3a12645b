-- Faults of parts are faults of the whole.
use Rattle.std.proofs.Common.{Bool, Option, Some, None, refl}
use Rattle.std.specs.Option.{option_map}
use Rattle.cm_types.specs.Types.{Ty}
use Rattle.cm_types.specs.Limits.{IsWithinLimits}
use Rattle.cm_types.specs.Spellable.{is_spellable}
use Rattle.cm_wit_meanings.specs.declared.fault.MeaningFault.{MeaningFault}
use Rattle.cm_wit_meanings.specs.declared.fault.MeaningFault.TheVariants as fault
use Rattle.cm_wit_meanings.specs.Faults.{IsFaultOf, IsTypeFault, IsFaultIn}

-- a fault of what a thing is made of
pub mapped_fault : {A B : Type 0} (g : A → B) (IsWithin : B → Type 0) (spelled : B → Bool) (o : Option A) (f : MeaningFault) → IsFaultOf (λ x. IsWithin (g x)) (λ x. spelled (g x)) o f → IsFaultOf IsWithin spelled (option_map g o) f
mapped_fault g IsWithin spelled None fault.NoSuchType h = refl
mapped_fault g IsWithin spelled (Some x) fault.NoSuchType h = absurd cc
mapped_fault g IsWithin spelled None fault.TooLarge h = tt
mapped_fault g IsWithin spelled (Some x) fault.TooLarge h = h
mapped_fault g IsWithin spelled None fault.NotSpellable h = tt
mapped_fault g IsWithin spelled (Some x) fault.NotSpellable h = h
mapped_fault g IsWithin spelled o fault.Memory h = tt

pub made_fault : {A : Type 0} (made : A → Ty) (o : Option A) (f : MeaningFault) → IsFaultIn made o f → IsTypeFault (option_map made o) f
made_fault made o f h = mapped_fault made IsWithinLimits is_spellable o f h
