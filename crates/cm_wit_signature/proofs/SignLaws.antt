-- Signatures and faults of worlds whose names lead to types.
use Rattle.std.proofs.Common.{◌≡◌, ◌⊎◌, inl, inr, ℕ, false, List, Option, Some, None, IfSome, length, slice_get, sym, ap, subst, ◌∙◌}
use Rattle.std.specs.List.{AllByRecursion, list_all}
use Rattle.cm_types.specs.Limits.{IsWithinLimits}
use Rattle.cm_types.specs.Spellable.{is_spellable}
use Rattle.cm_types.specs.Signatures.{SignatureTy}
use Rattle.cm_names.specs.Keys.{Key}
use Rattle.cm_wit_reading.specs.Trees.{File}
use Rattle.cm_wit_worlds.specs.Interfaces.{PlacedInterface, PlacedWorld, interfaces}
use Rattle.cm_wit_signature.specs.ItemFaults.{AreWithin, IsFaultWith}
use Rattle.cm_wit_meanings.specs.Faults.{IsFuncWithin, is_func_spellable}
use Rattle.cm_wit_meanings.specs.Scopes.{Meaning, as_type}
use Rattle.cm_wit_meanings.specs.declared.fault.MeaningFault.{MeaningFault}
use Rattle.cm_wit_meanings.specs.declared.fault.MeaningFault.TheVariants as one
use Rattle.cm_wit_tables.specs.Declarations.{Declaration, HasTypeCycle, keys_of}
use Rattle.cm_wit_tables.specs.Tables.{Solves}
use Rattle.cm_wit_tables.specs.TypeFaults.{AllHaveTypes}
use Rattle.cm_wit_tables.specs.Worlds.{Instance, instances, declarations}
use Rattle.cm_wit_signature.specs.Faults.{IsWorldSignature, IsFaultIn, IsTooLargeIn, world_of, AreTypesWithin}
use Rattle.cm_wit_signature.specs.Functions.{funcs_in}
use Rattle.cm_wit_signature.specs.Named.{HaveTypes, in_order}
use Rattle.cm_wit_signature.specs.Signatures.{signature_in, interfaces_among}
use Rattle.cm_wit_tables.specs.declared.fault.TableFault.{TableFault}
use Rattle.cm_wit_tables.specs.declared.fault.TableFault.TheVariants as table
use Rattle.cm_wit_tables.specs.TableFaults.{IsTableFault}
use Rattle.cm_wit_signature.specs.WorldFaults.{fault_of_table, fault_of_meaning}
use Rattle.cm_wit_signature.specs.Made.{signature_made}
use Rattle.cm_wit_signature.specs.Typed.{IsTyped}
use Rattle.cm_wit_signature.proofs.MadeLaws.{four}

none_is_not_some : {A : Type 0} (o : Option A) (x : A) → o ≡ None → o ≡ Some x → ⊥
none_is_not_some o x e f = let g = sym e ∙ f in cc

module _ (fs : List File) (w : PlacedWorld) (all : List PlacedInterface) (into out : List ℕ) (xs : List Instance) (first : ℕ) (ds : List Declaration) (t : IsTyped fs w all into out xs first ds) where
  acyclic_there : (HasTypeCycle ds → ⊥) → HasTypeCycle (declarations fs (instances (length (interfaces fs)) into out)) → ⊥
  acyclic_there a c = a (subst HasTypeCycle (sym t.are_declared) c)

  too_large : (HasTypeCycle ds → ⊥) → (meanings : List (Option Meaning)) → Solves ds meanings → (k : ℕ) (m : Meaning) → slice_get meanings k ≡ Some (Some m) → ((IsWithinLimits (as_type m) → ⊥) ⊎ (is_spellable (as_type m) ≡ false)) → IsTooLargeIn fs w into out
  too_large a meanings solves k m e h = record {
    externs = t.externs;
    typed = t.typed;
    acyclic = acyclic_there a;
    table = meanings;
    solves = subst (λ (d : List Declaration). Solves d meanings) t.are_declared solves;
    large = inl (k, m, e, h);
  }

  pub table_fault_in : (f : TableFault) → IsTableFault ds f → IsFaultIn fs w (fault_of_table f)
  table_fault_in table.NoSuchType h = absurd (h (subst AllHaveTypes (sym t.are_declared) t.typed.of_declarations))
  table_fault_in table.Cycle h = (t.externs.found, (instances (length (interfaces fs)) into out, in_order into out t.externs, t.typed, inr (subst HasTypeCycle t.are_declared h.1)))
  table_fault_in table.TooLarge (h, a, (k, m, (meanings, solves, e), n)) = (into, out, too_large a meanings solves k m e (inl n))
  table_fault_in table.NotSpellable (h, a, (k, m, (meanings, solves, e), n)) = (into, out, too_large a meanings solves k m e (inr n))
  table_fault_in table.Memory h = tt

  module _ (keys : List Key) (meanings : List (Option Meaning)) (own : ℕ) (e : keys ≡ keys_of ds) (solves : Solves ds meanings) (n : own ≡ length xs) (acyclic : HasTypeCycle ds → ⊥) where
    told : (P : Option SignatureTy → Type 0) → P (signature_made all w keys meanings own first into out) → P (signature_in fs w into out meanings)
    told P h = four (λ (a : List PlacedInterface) (ks : List Key) (l i : ℕ). P (signature_made a w ks meanings l i into out))
        (interfaces fs) all (keys_of (declarations fs (instances (length (interfaces fs)) into out))) keys (length (instances (length (interfaces fs)) into out)) own (length (interfaces_among (interfaces fs) into)) first
        t.are_interfaces (e ∙ ap keys_of t.are_declared) (n ∙ ap length t.are_instances) t.are_imported h

    pub signed : (name : List ℕ) → world_of fs name ≡ Some w → AreTypesWithin meanings → (s : SignatureTy) → signature_made all w keys meanings own first into out ≡ Some s → AreWithin (funcs_in s) → IsWorldSignature fs name s
    signed name is within s made funcs = record {
      world = w;
      is_world = is;
      into = into;
      out = out;
      externs = t.externs;
      typed = t.typed;
      acyclic = acyclic_there acyclic;
      table = meanings;
      solves = subst (λ (d : List Declaration). Solves d meanings) t.are_declared solves;
      is = told (λ (o : Option SignatureTy). o ≡ Some s) made;
      types_within = within;
      funcs_within = funcs;
    }

    large_func : (s : SignatureTy) → signature_in fs w into out meanings ≡ Some s → ((AllByRecursion IsFuncWithin (funcs_in s) → ⊥) ⊎ (list_all is_func_spellable (funcs_in s) ≡ false)) → IsTooLargeIn fs w into out
    large_func s is h = record {
      externs = t.externs;
      typed = t.typed;
      acyclic = acyclic_there acyclic;
      table = meanings;
      solves = subst (λ (d : List Declaration). Solves d meanings) t.are_declared solves;
      large = inr (s, is, h);
    }

    by_fault : (s : SignatureTy) → signature_in fs w into out meanings ≡ Some s → (f : MeaningFault) → IsFaultWith funcs_in (signature_in fs w into out meanings) f → IsFaultIn fs w (fault_of_meaning f)
    by_fault s is one.NoSuchType h = absurd (none_is_not_some (signature_in fs w into out meanings) s h is)
    by_fault s is one.TooLarge h = (into, out, large_func s is (inl (subst (λ (o : Option SignatureTy). IfSome o (λ x. AreWithin (funcs_in x) → ⊥)) is h)))
    by_fault s is one.NotSpellable h = (into, out, large_func s is (inr (subst (λ (o : Option SignatureTy). IfSome o (λ x. list_all is_func_spellable (funcs_in x) ≡ false)) is h)))
    by_fault s is one.Memory h = tt

    pub made_fault_in : ((fs2 : List File) (w2 : PlacedWorld) (into2 out2 : List ℕ) (table2 : List (Option Meaning)) → HaveTypes fs2 w2 (instances (length (interfaces fs2)) into2 out2) → (HasTypeCycle (declarations fs2 (instances (length (interfaces fs2)) into2 out2)) → ⊥) → Solves (declarations fs2 (instances (length (interfaces fs2)) into2 out2)) table2 → (s : SignatureTy) × (signature_in fs2 w2 into2 out2 table2 ≡ Some s)) → (f : MeaningFault) → IsFaultWith funcs_in (signature_made all w keys meanings own first into out) f → IsFaultIn fs w (fault_of_meaning f)
    made_fault_in law f h =
        let there = law fs w into out meanings t.typed (acyclic_there acyclic) (subst (λ (d : List Declaration). Solves d meanings) t.are_declared solves) in
        by_fault there.0 there.1 f (told (λ (o : Option SignatureTy). IsFaultWith funcs_in o f) h)
