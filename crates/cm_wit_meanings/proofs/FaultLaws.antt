-- Faults of parts are faults of the whole.
use Rattle.std.proofs.Common.{◌≡◌, ℕ, true, false, ◌&&◌, nat_lt, Option, Some, None, IfSome, refl, arith}
use Rattle.std.specs.Option.{option_map, option_and_then}
use Rattle.std.proofs.lemmas.Bool.{and_right, and_left}
use Rattle.cm_types.specs.Types.{Ty, list, fixed_list}
use Rattle.cm_types.specs.Limits.{IsWithinLimits, nodes_of}
use Rattle.cm_types.specs.Spellable.{is_spellable, is_spellable_payload}
use Rattle.cm_wit_meanings.specs.declared.fault.MeaningFault.{MeaningFault}
use Rattle.cm_wit_meanings.specs.declared.fault.MeaningFault.TheVariants as fault
use Rattle.cm_wit_meanings.specs.Meanings.{option_of, result_of}
use Rattle.cm_wit_meanings.specs.Faults.{IsTypeFault, IsFaultIn, IsPayloadFault}
use Rattle.cm_lemmas.proofs.Numbers.{times_least}

-- ---- what has one part

module _ (g : Ty → Ty) (within : (t : Ty) → IsWithinLimits (g t) → IsWithinLimits t) (spelled : (t : Ty) → is_spellable t ≡ false → is_spellable (g t) ≡ false) where
  above_fault : (o : Option Ty) (f : MeaningFault) → IsTypeFault o f → IsTypeFault (option_map g o) f
  above_fault None fault.NoSuchType h = refl
  above_fault (Some t) fault.NoSuchType h = absurd cc
  above_fault None fault.TooLarge h = tt
  above_fault (Some t) fault.TooLarge h = λ w. h (within t w)
  above_fault None fault.NotSpellable h = tt
  above_fault (Some t) fault.NotSpellable h = spelled t h
  above_fault o fault.Memory h = tt

pub list_fault : (o : Option Ty) (f : MeaningFault) → IsTypeFault o f → IsTypeFault (option_map list o) f
list_fault o f h = above_fault list (λ t w. (omega (arith, w.0), omega (arith, w.1))) (λ t e. e) o f h

pub fixed_fault : (n : ℕ) (o : Option Ty) (f : MeaningFault) → IsTypeFault o f → IsTypeFault (option_map (λ t. fixed_list t n) o) f
fixed_fault n o f h =
    above_fault (λ t. fixed_list t n) (λ t w. (omega (arith, w.0, times_least n (nodes_of t)), omega (arith, w.1))) (λ t e. and_right (nat_lt 0 n) (is_spellable t) e) o f h

pub option_fault : (o : Option Ty) (f : MeaningFault) → IsTypeFault o f → IsTypeFault (option_map option_of o) f
option_fault o f h = above_fault option_of (λ t w. (omega (arith, w.0), omega (arith, w.1))) (λ t e. and_left (is_spellable t) true e) o f h

-- ---- a result, by its payloads

abbrev pub both_of : Option (Option Ty) → Option (Option Ty) → Option Ty
both_of a b = option_and_then (λ x. option_map (λ y. result_of x y) b) a

payloads_within : (x y : Option Ty) → IsWithinLimits (result_of x y) → IfSome x IsWithinLimits × IfSome y IsWithinLimits
payloads_within None None w = (tt, tt)
payloads_within (Some a) None w = ((omega (arith, w.0), omega (arith, w.1)), tt)
payloads_within None (Some b) w = (tt, (omega (arith, w.0), omega (arith, w.1)))
payloads_within (Some a) (Some b) w = ((omega (arith, w.0), omega (arith, w.1)), (omega (arith, w.0), omega (arith, w.1)))

ok_spelled : (x y : Option Ty) → is_spellable_payload x ≡ false → is_spellable (result_of x y) ≡ false
ok_spelled None y h = absurd cc
ok_spelled (Some a) None h = and_left (is_spellable a) true h
ok_spelled (Some a) (Some b) h = and_left (is_spellable a) (is_spellable b && true) h

error_spelled : (x y : Option Ty) → is_spellable_payload y ≡ false → is_spellable (result_of x y) ≡ false
error_spelled x None h = absurd cc
error_spelled None (Some b) h = and_left (is_spellable b) true h
error_spelled (Some a) (Some b) h = and_right (is_spellable a) (is_spellable b && true) (and_left (is_spellable b) true h)

pub ok_fault : (a b : Option (Option Ty)) (f : MeaningFault) → IsPayloadFault a f → IsTypeFault (both_of a b) f
ok_fault None b fault.NoSuchType h = refl
ok_fault (Some x) b fault.NoSuchType h = absurd cc
ok_fault None b fault.TooLarge h = tt
ok_fault (Some x) None fault.TooLarge h = tt
ok_fault (Some x) (Some y) fault.TooLarge h = λ w. h (payloads_within x y w).0
ok_fault None b fault.NotSpellable h = tt
ok_fault (Some x) None fault.NotSpellable h = tt
ok_fault (Some x) (Some y) fault.NotSpellable h = ok_spelled x y h
ok_fault a b fault.Memory h = tt

error_fault_of : (x : Option Ty) (b : Option (Option Ty)) (f : MeaningFault) → IsPayloadFault b f → IsTypeFault (both_of (Some x) b) f
error_fault_of x None fault.NoSuchType h = refl
error_fault_of x (Some y) fault.NoSuchType h = absurd cc
error_fault_of x None fault.TooLarge h = tt
error_fault_of x (Some y) fault.TooLarge h = λ w. h (payloads_within x y w).1
error_fault_of x None fault.NotSpellable h = tt
error_fault_of x (Some y) fault.NotSpellable h = error_spelled x y h
error_fault_of x b fault.Memory h = tt

pub error_fault : (a b : Option (Option Ty)) (x : Option Ty) (f : MeaningFault) → a ≡ Some x → IsPayloadFault b f → IsTypeFault (both_of a b) f
error_fault a b x f e h = rw e (error_fault_of x b f h)

pub some_fault : (o : Option Ty) (f : MeaningFault) → IsTypeFault o f → IsPayloadFault (option_map Some o) f
some_fault None fault.NoSuchType h = refl
some_fault (Some x) fault.NoSuchType h = absurd cc
some_fault None fault.TooLarge h = tt
some_fault (Some x) fault.TooLarge h = h
some_fault None fault.NotSpellable h = tt
some_fault (Some x) fault.NotSpellable h = h
some_fault o fault.Memory h = tt

-- ---- what is made of several

pub made_fault : {A : Type 0} (made : A → Ty) (o : Option A) (f : MeaningFault) → IsFaultIn made o f → IsTypeFault (option_map made o) f
made_fault made None fault.NoSuchType h = refl
made_fault made (Some x) fault.NoSuchType h = absurd cc
made_fault made None fault.TooLarge h = tt
made_fault made (Some x) fault.TooLarge h = h
made_fault made None fault.NotSpellable h = tt
made_fault made (Some x) fault.NotSpellable h = h
made_fault made o fault.Memory h = tt
