-- What definitions stand for.
use Rattle.std.proofs.Common.{◌≡◌, List, Option, Some, None, refl, ap, ◌∙◌, sym, Vec, Global}
use Rattle.std.specs.Option.{option_map}
use Rattle.std.specs.Prelude.{map}
use Rattle.std.proofs.lemmas.Bool.{and_right}
use Rattle.cm_types.specs.declared.resource.ResourceId.{ResourceId}
use Rattle.cm_types.specs.TypeTrees.{TypedLabel, fields_from}
use Rattle.cm_types.specs.Spellable.{are_spellable}
use Rattle.cm_wit_reading.specs.declared.signatures.Typed as typed_code
use Rattle.cm_wit_reading.specs.SignatureViews.{typed_tree}
use Rattle.cm_wit_reading.specs.declared.interfaces.Case as case_code
use Rattle.cm_wit_reading.specs.declared.interfaces.TypeDef.{TypeDef}
use Rattle.cm_wit_reading.specs.declared.interfaces.TypeDef.TheVariants as text_is
use Rattle.cm_wit_reading.specs.Views.{case_tree, type_def_tree}
use Rattle.cm_wit_meanings.specs.declared.fault.MeaningFault.{MeaningFault}
use Rattle.cm_wit_meanings.specs.declared.fault.MeaningFault.TheVariants as fault
use Rattle.cm_wit_meanings.specs.Scopes.{Scope, value}
use Rattle.cm_wit_meanings.specs.Meanings.{case_meaning, def_meaning, each_meaning, record_of, typed_meaning, variant_of}
use Rattle.cm_wit_meanings.specs.Faults.{AreFieldsFault, IsTypeFault}

pub record_refused : (o : Option (List TypedLabel)) (f : MeaningFault) → AreFieldsFault o f → IsTypeFault (option_map record_of o) f
record_refused None fault.NoSuchType h = refl
record_refused (Some fs) fault.NoSuchType h = absurd cc
record_refused None fault.TooLarge h = tt
record_refused (Some fs) fault.TooLarge h = h
record_refused None fault.NotSpellable h = tt
record_refused (Some fs) fault.NotSpellable h = and_right _ (are_spellable (fields_from fs)) h
record_refused o fault.Memory h = tt

-- ---- what a text of each kind stands for

module _ (s : Scope) (r : ResourceId) (text : TypeDef) where
  pub record_means : (v : Vec typed_code.Typed Global) (fs : List typed_code.Typed) → text ≡ text_is.Record v → fs ≡ v.items → def_meaning s r (type_def_tree text) ≡ option_map value (option_map record_of (each_meaning (typed_meaning s) (map typed_tree fs)))
  record_means v fs e is = ap (λ (x : TypeDef). def_meaning s r (type_def_tree x)) e ∙ ap (λ (xs : List typed_code.Typed). option_map value (option_map record_of (each_meaning (typed_meaning s) (map typed_tree xs)))) (sym is)

  pub variant_means : (v : Vec case_code.Case Global) (cs : List case_code.Case) → text ≡ text_is.Variant v → cs ≡ v.items → def_meaning s r (type_def_tree text) ≡ option_map value (option_map variant_of (each_meaning (case_meaning s) (map case_tree cs)))
  variant_means v cs e is = ap (λ (x : TypeDef). def_meaning s r (type_def_tree x)) e ∙ ap (λ (xs : List case_code.Case). option_map value (option_map variant_of (each_meaning (case_meaning s) (map case_tree xs)))) (sym is)
