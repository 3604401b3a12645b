-- What calls answer for lifts and lowers.
use Rattle.std.proofs.Common.{◌≡◌, ℕ, true, false, List, [], Option, Some, None, refl, sym, ap, ◌∙◌}
use Rattle.std.specs.Option.{option_map}
use Rattle.std.specs.Prelude.{is_some, slice_get}
use Rattle.cm_types.specs.Types.{Ty, FuncTy}
use Rattle.cm_binary_model.specs.Trees.{CanonTree}
use Rattle.cm_binary_model.specs.declared.canons.CanonOption.{CanonOption}
use Rattle.cm_validate_model.specs.declared.fault.ValidReason.{ValidReason}
use Rattle.cm_validate_model.specs.Definitions.{CoreFuncDef, FuncDef}
use Rattle.cm_validate_model.specs.Items.{Item, canon_item}
use Rattle.cm_validate_model.specs.Reasons.{found, least}
use Rattle.cm_validate_model.specs.Rules.{broken, lowered_broken}
use Rattle.cm_validate_model.specs.Spaces.{Spaces, after_item, new_types}
use Rattle.cm_validate_core.specs.CoreSpaces.{IsCoreOf, made_count}
use Rattle.cm_validate_core.specs.declared.spaces.CoreSpaces.{CoreSpaces}
use Rattle.cm_validate_entries.specs.cm_validate_types.declared.entries.TypeEntry.{TypeEntry}
use Rattle.cm_validate_entries.specs.ComponentSpaces.{AreTypesOf, IsComponentOf, after_answer}
use Rattle.cm_validate_entries.specs.Entries.{func_def}
use Rattle.cm_validate_entries.specs.declared.entries.FuncEntry.{FuncEntry}
use Rattle.cm_validate_entries.specs.declared.spaces.ComponentSpaces.{ComponentSpaces}
use Rattle.cm_validate_canons.specs.Spaces.{Answers, Stand, TellsNext, count_after}
use Rattle.cm_validate_canons.specs.Types.{types_in, funcs_in}
use Rattle.cm_validate_canons.specs.declared.types.LaidTypes.{LaidTypes}
use Rattle.cm_lemmas.proofs.Options.{is_none}

-- types stay where an item adds none
abbrev pub TypesStay : Type 0
TypesStay =
    (types : List Ty) (funcs : List FuncTy) (es : List TypeEntry) (s : Spaces) (x : Item) → new_types s x ≡ [] → AreTypesOf types funcs es s → AreTypesOf types funcs es (after_item s x)

module _ (types : LaidTypes) (c : CanonTree) (core : CoreSpaces) (component : ComponentSpaces) where
  -- it breaks a rule
  stays : (P : Spaces → Type 0) (r : Option ValidReason) (s : Spaces) → is_some r ≡ true → P s → P (after_answer r s (canon_item c))
  stays P None s e p = absurd cc
  stays P (Some q) s e p = p

  none_counted : (r : Option ValidReason) → is_some r ≡ true → made_count core ≡ count_after r core c
  none_counted None e = absurd cc
  none_counted (Some q) e = refl

  pub faulty_answer : (r : Option ValidReason) → is_some r ≡ true → ((made : ℕ → CoreFuncDef) (s : Spaces) → Stand made types core component s → r ≡ least (broken s (canon_item c)))
      → Answers types c core component r core component
  faulty_answer r some e = record {
    fault = e;
    after = λ made s t tells. stays (Stand made types core component) r s some t;
    counted = none_counted r some;
  }

  -- it breaks nothing
  pub added_answer : TypesStay → (r : Option ValidReason) (new_core : CoreSpaces) (new : ComponentSpaces) → is_some r ≡ false
      → ((made : ℕ → CoreFuncDef) (s : Spaces) → Stand made types core component s → r ≡ least (broken s (canon_item c)))
      → ((made : ℕ → CoreFuncDef) (s : Spaces) → Stand made types core component s → TellsNext made core s c → IsCoreOf made new_core (after_item s (canon_item c)))
      → ((made : ℕ → CoreFuncDef) (s : Spaces) → Stand made types core component s → IsComponentOf (types_in types) (funcs_in types) new (after_item s (canon_item c)))
      → made_count new_core ≡ count_after None core c
      → Answers types c core component None new_core new
  added_answer types_stay r new_core new none e core_after after count = record {
    fault = λ made s t. sym (is_none r none) ∙ e made s t;
    after = λ made s t tells. record {
      core_is = core_after made s t (tells refl);
      component_is = after made s t;
      types_are = types_stay (types_in types) (funcs_in types) types.entries.now s (canon_item c) refl t.types_are;
    };
    counted = count;
  }

-- a function by its index
pub lowered_there : (funcs : List FuncTy) (s : Spaces) (i : ℕ) (os : List CanonOption) (o : Option FuncEntry) (f : FuncEntry) (r : Option ValidReason) → option_map (func_def funcs) o ≡ slice_get s.funcs i → o ≡ Some f → r ≡ least (lowered_broken os (func_def funcs f))
    → r ≡ least (found (lowered_broken os) (slice_get s.funcs i))
lowered_there funcs s i os o f r told is e = e ∙ ap (λ (v : Option FuncDef). least (found (lowered_broken os) v)) (sym (ap (option_map (func_def funcs)) is) ∙ told)
