-- What calls answer for canonical definitions.
use Rattle.std.proofs.Common.{◌≡◌, ℕ, ◌+◌, Bool, true, false, List, [], ◌∷◌, ◌++◌, length, map, Option, Some, None, refl, sym, ap, ◌∙◌, arith, subst, Vec, Global, length-append}
use Rattle.std.proofs.lemmas.Option.{slice_get-map}
use Rattle.std.specs.List.{list_all, slice_get}
use Rattle.std.specs.Prelude.{if◌then◌else◌, nat_le}
use Rattle.cm_validate_model.specs.ReasonWords.{reason_number}
use Rattle.std.specs.Option.{option_and_then, option_map}
use Rattle.cm_types.specs.Types.{Ty, FuncTy}
use Rattle.cm_binary_model.specs.Trees.{CanonTree, lift, lower, resource_drop, resource_new, resource_rep}
use Rattle.cm_binary_model.specs.declared.canons.CanonOption.{CanonOption}
use Rattle.cm_layout_placed.specs.Placed.{AreOfFirst, layouts_in}
use Rattle.cm_layout_placed.specs.declared.layouts.Layouts.{Layouts}
use Rattle.cm_validate_model.specs.declared.fault.ValidReason.{ValidReason}
use Rattle.cm_validate_model.specs.declared.fault.ValidReason.TheVariants as reason
use Rattle.cm_validate_model.specs.Definitions.{CoreFuncDef, FuncDef, TypeDef, dropping, faulty, func_type, imported, instance_type, lifted, making, reading, resource, sort_of, value}
use Rattle.cm_validate_model.specs.Items.{Item, canon_item}
use Rattle.cm_validate_model.specs.Options.{no_post_return_broken, options_broken}
use Rattle.cm_validate_model.specs.Reasons.{found, if_found, least, lesser, unless}
use Rattle.cm_validate_model.specs.Rules.{canon_broken, lowered_broken, own_resource_broken, resource_at, resource_broken}
use Rattle.cm_validate_model.specs.Scopes.{resource_in}
use Rattle.cm_validate_model.specs.Spaces.{Spaces, after_item, canon_core_func, lower_func}
use Rattle.cm_validate_model.specs.TypeRules.{has_sort}
use Rattle.cm_validate_model.specs.declared.sorts.TypeSort.TheVariants as sort
use Rattle.cm_validate_core.specs.CoreSpaces.{IsCoreOf, count_made, made_count, number_made}
use Rattle.cm_validate_core.specs.declared.spaces.CoreSpaces.{CoreSpaces}
use Rattle.cm_validate_types.specs.Entries.{in_arena}
use Rattle.cm_validate_types.specs.TypeScopes.{own_types}
use Rattle.cm_validate_entries.specs.ComponentSpaces.{AreTypesOf, IsComponentOf, after_answer}
use Rattle.cm_validate_entries.specs.declared.spaces.ComponentSpaces.{ComponentSpaces}
use Rattle.cm_validate_canons.specs.Spaces.{Answers as CanonAnswers, Stand, count_after}
use Rattle.cm_validate_canons.specs.Types.{funcs_in as laid_funcs, types_in as laid_types}
use Rattle.cm_validate_canons.specs.declared.types.LaidTypes.{LaidTypes}
use Rattle.cm_validate_spaces.specs.IndexSpaces.{Answers, IsAt, defs_made, funcs_in, types_in}
use Rattle.cm_validate_spaces.specs.Made.{Tells, is_made_there, made_def}
use Rattle.cm_validate_spaces.specs.Making.{Makes}
use Rattle.cm_validate_spaces.specs.declared.made.MadeFunc.{MadeFunc}
use Rattle.cm_validate_spaces.specs.declared.spaces.IndexSpaces.{IndexSpaces}
use Rattle.cm_validate_spaces.proofs.AnswerLaws.{either, none_more}
use Rattle.cm_validate_spaces.proofs.MadeLaws.{tells, tells_before, tells_last, there_with, told_by}
use Rattle.cm_lemmas.proofs.Lists.{nil_front}

-- ---- more layouts

pub relaid : (w : IndexSpaces) (ls : Layouts) (s : Spaces) → AreOfFirst (layouts_in ls) (types_in w) → IsAt w s → IsAt (record w { layouts = ls }) s
relaid w ls s laid at = record {
  core_is = at.core_is;
  component_is = at.component_is;
  types_are = at.types_are;
  settled = at.settled;
  counted = at.counted;
  made_there = at.made_there;
  laid = laid;
}

pub answer_relaid : (x : Item) (w : IndexSpaces) (ls : Layouts) (r : Option ValidReason) (v : IndexSpaces) → AreOfFirst (layouts_in ls) (types_in w) → Answers x (record w { layouts = ls }) r v → Answers x w r v
answer_relaid x w ls r v laid a = record {
  fault = λ s at. a.fault s (relaid w ls s laid at);
  after = λ s at. a.after s (relaid w ls s laid at);
}

-- ---- the types, laid out

-- the index spaces w, with these types
module _ (w : IndexSpaces) (laid : LaidTypes) (ts : laid_types laid ≡ types_in w) (fs : laid_funcs laid ≡ funcs_in w) where
  pub component_laid : (c : ComponentSpaces) (s : Spaces) → IsComponentOf (types_in w) (funcs_in w) c s → IsComponentOf (laid_types laid) (laid_funcs laid) c s
  component_laid c s h =
      subst (λ (types : List Ty). IsComponentOf types (laid_funcs laid) c s) (sym ts) (subst (λ (funcs : List FuncTy). IsComponentOf (types_in w) funcs c s) (sym fs) h)

  component_back : (c : ComponentSpaces) (s : Spaces) → IsComponentOf (laid_types laid) (laid_funcs laid) c s → IsComponentOf (types_in w) (funcs_in w) c s
  component_back c s h = subst (λ (types : List Ty). IsComponentOf types (funcs_in w) c s) ts (subst (λ (funcs : List FuncTy). IsComponentOf (laid_types laid) funcs c s) fs h)

  module _ (types_at : (s : Spaces) → IsAt w s → AreTypesOf (types_in w) (funcs_in w) laid.entries.now s) where
    types_laid : (s : Spaces) → IsAt w s → AreTypesOf (laid_types laid) (laid_funcs laid) laid.entries.now s
    types_laid s at =
        subst (λ (types : List Ty). AreTypesOf types (laid_funcs laid) laid.entries.now s) (sym ts)
        (subst (λ (funcs : List FuncTy). AreTypesOf (types_in w) funcs laid.entries.now s) (sym fs) (types_at s at))

    stand : (tell : ℕ → CoreFuncDef) (s : Spaces) → Tells tell (defs_made w) → IsAt w s → Stand tell laid w.core w.component s
    stand tell s t at = record { core_is = at.core_is tell t; component_is = component_laid w.component s at.component_is; types_are = types_laid s at }

    module _ (f i : ℕ) (os : List CanonOption) (r : Option ValidReason) (core : CoreSpaces) (component : ComponentSpaces) (ls : Layouts) (first : AreOfFirst (layouts_in ls) (types_in w)) (a : CanonAnswers laid (lift f os i) w.core w.component r core component) where
      abbrev x : Item
      x = canon_item (lift f os i)

      after : (tell : ℕ → CoreFuncDef) (s : Spaces) → Tells tell (defs_made w) → IsAt w s → Stand tell laid core component (after_answer r s x)
      after tell s t at = a.after tell s (stand tell s t at) (λ e. refl)

      abbrev told : ℕ → CoreFuncDef
      told = told_by (funcs_in w) w.made.items

      as_many : (q : Option ValidReason) → count_after q w.core (lift f os i) ≡ made_count w.core
      as_many None = omega arith
      as_many (Some q) = refl

      pub lift_answer : Answers x w r (record w { core = core; component = component; layouts = ls })
      lift_answer = record {
        fault = λ s at. a.fault told s (stand told s (tells (funcs_in w) w.made.items) at);
        after = λ s at. record {
          core_is = λ tell t. (after tell s t at).core_is;
          component_is = component_back component (after_answer r s x) (after told s (tells (funcs_in w) w.made.items) at).component_is;
          types_are = either (λ (v : Spaces). v.types ≡ own_types w.types) x s r at.types_are (λ e. none_more x s (own_types w.types) refl at.types_are);
          settled = at.settled;
          counted = a.counted ∙ as_many r ∙ at.counted;
          made_there = at.made_there;
          laid = first;
        };
      }

-- ---- a core function that is made

number_is : (c : CanonTree) (core : CoreSpaces) → count_made c ≡ 1 → number_made core c ≡ Some (made_count core)
number_is (lift f os i) core e = absurd (omega (arith, e))
number_is (lower f os) core e = refl
number_is (resource_new i) core e = refl
number_is (resource_drop i) core e = refl
number_is (resource_rep i) core e = refl

pub made_answer : (w : IndexSpaces) (c : CanonTree) (m : MadeFunc) (core : CoreSpaces) (ms : Vec MadeFunc Global) → Makes w c None (Some m)
    → ((tell : ℕ → CoreFuncDef) (s : Spaces) → IsCoreOf tell w.core s → canon_core_func s c ≡ option_map tell (number_made w.core c) → IsCoreOf tell core (after_item s (canon_item c)))
    → made_count core ≡ made_count w.core + count_made c → ms.items ≡ w.made.items ++ m ∷ [] → Answers (canon_item c) w None (record w { core = core; made = ms })
made_answer w c m core ms makes added count items = record {
  fault = λ s at. makes.fault_is s at;
  after = λ s at. record {
    core_is = λ tell t.
        let more = subst (λ (xs : List MadeFunc). Tells tell (map (made_def (funcs_in w)) xs)) items t in
        added tell s (at.core_is tell (tells_before (funcs_in w) w.made.items m tell more))
        (sym (makes.made_is s at) ∙ ap Some (sym (tells_last (funcs_in w) w.made.items m tell more)) ∙ ap (λ n. Some (tell n)) (sym at.counted) ∙ ap (option_map tell) (sym (number_is c w.core makes.makes)));
    component_is = makes.others (types_in w) (funcs_in w) w.component s at.component_is;
    types_are = none_more (canon_item c) s (own_types w.types) refl at.types_are;
    settled = at.settled;
    counted = count ∙ ap (λ n. made_count w.core + n) makes.makes ∙ ap (λ n. n + 1) at.counted ∙ sym (length-append w.made.items (m ∷ [])) ∙ ap length (sym items);
    made_there = ap (list_all (is_made_there (length (funcs_in w)))) items ∙ there_with (length (funcs_in w)) w.made.items m at.made_there (makes.there s at);
    laid = at.laid;
  };
}

-- ---- what breaks nothing makes one

no_reason : (rs : List ValidReason) → None ≡ least rs → rs ≡ []
no_reason [] e = refl
no_reason (r ∷ rs) e = absurd (some_least r (least rs) e)
  where
    one : (b : Bool) (q p : ValidReason) → None ≡ (if b then Some q else Some p) → ⊥
    one true q p e = absurd cc
    one false q p e = absurd cc

    some_least : (r : ValidReason) (o : Option ValidReason) → None ≡ lesser (Some r) o → ⊥
    some_least r None e = absurd cc
    some_least r (Some q) e = one (nat_le (reason_number r) (reason_number q)) r q e

lowered_some : (os : List CanonOption) (d : Option FuncDef) → found (lowered_broken os) d ≡ [] → option_and_then (lower_func os) d ≡ None → ⊥
lowered_some os None e n = absurd cc
lowered_some os (Some (lifted f ty o)) e n = absurd cc
lowered_some os (Some (imported i k ty)) e n = absurd cc

resource_some : (make : ℕ → CoreFuncDef) (d : Option TypeDef) → found (λ t. unless (has_sort sort.Resource t) reason.WrongSort) (option_map sort_of d) ≡ [] → option_map make (option_and_then resource_in d) ≡ None → ⊥
resource_some make None e n = absurd cc
resource_some make (Some (value t)) e n = absurd cc
resource_some make (Some (func_type f)) e n = absurd cc
resource_some make (Some (resource k)) e n = absurd cc
resource_some make (Some (instance_type i)) e n = absurd cc
resource_some make (Some faulty) e n = absurd cc

sorts_at : (s : Spaces) (i : ℕ) → resource_broken s i ≡ [] → found (λ t. unless (has_sort sort.Resource t) reason.WrongSort) (option_map sort_of (slice_get s.types i)) ≡ []
sorts_at s i e = ap (found (λ t. unless (has_sort sort.Resource t) reason.WrongSort)) (sym (slice_get-map sort_of s.types i)) ∙ e

never_none : (s : Spaces) (c : CanonTree) → count_made c ≡ 1 → canon_broken s c ≡ [] → canon_core_func s c ≡ None → ⊥
never_none s (lift f os i) one e n = omega (arith, one)
never_none s (lower f os) one e n = lowered_some os (slice_get s.funcs f) (nil_front (found (lowered_broken os) (slice_get s.funcs f)) (options_broken s os) (nil_front (found (lowered_broken os) (slice_get s.funcs f) ++ options_broken s os) (no_post_return_broken os) e)) n
never_none s (resource_new i) one e n = resource_some making (slice_get s.types i) (sorts_at s i (nil_front (resource_broken s i) (if_found (own_resource_broken s) (resource_at s i)) e)) n
never_none s (resource_drop i) one e n = resource_some dropping (slice_get s.types i) (sorts_at s i e) n
never_none s (resource_rep i) one e n = resource_some reading (slice_get s.types i) (sorts_at s i (nil_front (resource_broken s i) (if_found (own_resource_broken s) (resource_at s i)) e)) n

pub nothing_answer : (w : IndexSpaces) (c : CanonTree) → Makes w c None None → Answers (canon_item c) w None w
nothing_answer w c makes = record {
  fault = λ s at. makes.fault_is s at;
  after = λ s at. absurd (never_none s c makes.makes (no_reason (canon_broken s c) (makes.fault_is s at)) (sym (makes.made_is s at)));
}

pub placed_in : (w : IndexSpaces) (laid : LaidTypes) → laid_types laid ≡ types_in w → laid_funcs laid ≡ funcs_in w → in_arena (laid_types laid) (laid_funcs laid) laid.entries.now ≡ true → in_arena (types_in w) (funcs_in w) laid.entries.now ≡ true
placed_in w laid ts fs h =
    subst (λ (types : List Ty). in_arena types (funcs_in w) laid.entries.now ≡ true) ts
    (subst (λ (funcs : List FuncTy). in_arena (laid_types laid) funcs laid.entries.now ≡ true) fs h)
