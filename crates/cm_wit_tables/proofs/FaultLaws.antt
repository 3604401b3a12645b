-- What a table that is filled says of its declarations, and what a fault does.
use Rattle.std.proofs.Common.{◌≡◌, ℕ, zero, suc, List, [], ◌∷◌, Option, Some, None, slice_get, subst, sym}
use Rattle.std.proofs.lemmas.Option.{same_Some}
use Rattle.cm_types.specs.Types.{Ty}
use Rattle.cm_types.specs.Limits.{IsWithinLimits}
use Rattle.cm_wit_meanings.specs.declared.fault.MeaningFault.{MeaningFault}
use Rattle.cm_wit_meanings.specs.declared.fault.MeaningFault.TheVariants as one
use Rattle.cm_wit_meanings.specs.declared.scope.Meaning as code
use Rattle.cm_wit_meanings.specs.Places.{meaning_in, table_in}
use Rattle.cm_wit_meanings.specs.Scopes.{Meaning, as_type}
use Rattle.cm_wit_tables.specs.Declarations.{Declaration, HasTypeCycle}
use Rattle.cm_wit_tables.specs.TypeFaults.{AllHaveTypes}
use Rattle.cm_wit_tables.specs.Filled.{AreWithin}
use Rattle.cm_wit_tables.specs.FillFaults.{IsFillFault}
use Rattle.cm_wit_tables.specs.declared.fault.TableFault.{TableFault}
use Rattle.cm_wit_tables.specs.TableFaults.{IsTableFault, table_fault}

some_within : (types : List Ty) (m : code.Meaning) (n : Meaning) → IsWithinLimits (as_type (meaning_in types m)) → Some (Some (meaning_in types m)) ≡ Some (Some n) → IsWithinLimits (as_type n)
some_within types m n w e = subst (λ (x : Meaning). IsWithinLimits (as_type x)) (same_Some _ _ (same_Some _ _ e)) w

pub within_each : (types : List Ty) (table : List (Option code.Meaning)) → AreWithin types table → (k : ℕ) (m : Meaning) → slice_get (table_in types table) k ≡ Some (Some m) → IsWithinLimits (as_type m)
within_each types [] w k m e = absurd cc
within_each types (None ∷ ms) w zero m e = absurd (let f : None ≡ Some m = same_Some _ _ e in cc)
within_each types (Some x ∷ ms) w zero m e = some_within types x m w.0 e
within_each types (None ∷ ms) w (suc k) m e = within_each types ms w.1 k m e
within_each types (Some x ∷ ms) w (suc k) m e = within_each types ms w.1 k m e

pub fault_is : (ds : List Declaration) (f : MeaningFault) (g : TableFault) → g ≡ table_fault f → AllHaveTypes ds → (HasTypeCycle ds → ⊥) → IsFillFault ds f → IsTableFault ds g
fault_is ds f g e all acyclic h = subst (IsTableFault ds) (sym e) (by_fault f h)
  where
    by_fault : (x : MeaningFault) → IsFillFault ds x → IsTableFault ds (table_fault x)
    by_fault one.NoSuchType d = absurd d
    by_fault one.TooLarge d = (all, acyclic, d)
    by_fault one.NotSpellable d = (all, acyclic, d)
    by_fault one.Memory d = tt
