-- Types that are added to a scope, and types that an alias names.
use Rattle.std.proofs.Common.{◌≡◌, ℕ, true, false, List, [], ◌∷◌, ◌++◌, Option, Some, None, refl, sym, ap, ◌∙◌, subst, MatchOption}
use Rattle.std.specs.List.{AllByRecursion, slice_get}
use Rattle.std.specs.Prelude.{◌==◌}
use Rattle.cm_types.specs.Types.{Ty, FuncTy}
use Rattle.cm_types.specs.declared.def_types.OuterType.{OuterType}
use Rattle.cm_binary_model.specs.Trees.{AliasTree, outer_type}
use Rattle.cm_validate_model.specs.declared.fault.ValidReason.{ValidReason}
use Rattle.cm_validate_model.specs.declared.fault.ValidReason.TheVariants as reason
use Rattle.cm_validate_model.specs.Definitions.{TypeDef}
use Rattle.cm_validate_model.specs.Items.{Item, alias_item}
use Rattle.cm_validate_model.specs.Reasons.{found, least, lesser, unless}
use Rattle.cm_validate_model.specs.Rules.{broken}
use Rattle.cm_validate_model.specs.Spaces.{Spaces, after_item, new_types, next_resource}
use Rattle.cm_validate_model.specs.CountedSpaces.{AreSpacesCounted, IsDefCounted}
use Rattle.cm_validate_core.specs.CoreSpaces.{StaysAfter as CoreStaysAfter}
use Rattle.cm_validate_types.specs.Entries.{def_of}
use Rattle.cm_validate_types.specs.Settled.{IsEntrySettled}
use Rattle.cm_validate_types.specs.SettledScopes.{AreSettled}
use Rattle.cm_validate_types.specs.TypeScopes.{HasGrown, arena_funcs, arena_types, entries_of, own_types}
use Rattle.cm_validate_types.specs.declared.entries.TypeEntry.{TypeEntry}
use Rattle.cm_validate_types.specs.declared.scope.TypeScope.{TypeScope}
use Rattle.cm_validate_entries.specs.ComponentSpaces.{AnswersAlias, IsComponentOf}
use Rattle.cm_validate_entries.specs.declared.aliases.Aliased.TheVariants as aliased
use Rattle.cm_validate_entries.specs.declared.spaces.ComponentSpaces.{ComponentSpaces}
use Rattle.cm_validate_spaces.specs.IndexSpaces.{Answers, IsAt, funcs_in, types_in}
use Rattle.cm_validate_spaces.specs.declared.spaces.IndexSpaces.{IndexSpaces}
use Rattle.cm_validate_spaces.proofs.AnswerLaws.{ComponentGrows, LayoutsStay, component_answer, types_answer}
use Rattle.cm_lemmas.proofs.Lists.{all_push}
use Rattle.cm_validate_types.proofs.ScopeLaws.{grown_not}

-- ---- a scope with one type more

pub record Adds (e : TypeEntry) (old new : TypeScope) : Type 0 where
  pub own : own_types new ≡ own_types old ++ def_of (arena_types old) (arena_funcs old) e ∷ []
  pub entries : entries_of new ≡ entries_of old ++ e ∷ []
  pub types : arena_types new ≡ arena_types old
  pub funcs : arena_funcs new ≡ arena_funcs old

pub grown : (e : TypeEntry) (old new : TypeScope) → Adds e old new → HasGrown old new
grown e old new a = (grown_not (arena_types old) (arena_types new) a.types, grown_not (arena_funcs old) (arena_funcs new) a.funcs)

pub settled_with : (e : TypeEntry) (old new : TypeScope) → Adds e old new → AreSettled old → IsEntrySettled (arena_types old) (arena_funcs old) e → AreSettled new
settled_with e old new a s p =
    subst (λ (ts : List Ty). AllByRecursion (IsEntrySettled ts (arena_funcs new)) (entries_of new)) (sym a.types)
    (subst (λ (fs : List FuncTy). AllByRecursion (IsEntrySettled (arena_types old) fs) (entries_of new)) (sym a.funcs)
    (subst (AllByRecursion (IsEntrySettled (arena_types old) (arena_funcs old))) (sym a.entries)
    (all_push (IsEntrySettled (arena_types old) (arena_funcs old)) (entries_of old) e s p)))

-- one type that an item adds, and nothing else but maybe a resource
pub one_answer : ComponentGrows → LayoutsStay → (x : Item) (w : IndexSpaces) (d : ComponentSpaces) (e : TypeEntry) (t : TypeScope)
    → ((s : Spaces) → IsAt w s → None ≡ least (broken s x))
    → ((s : Spaces) → IsAt w s → IsComponentOf (types_in w) (funcs_in w) d (after_item s x))
    → ((s : Spaces) → IsAt w s → new_types s x ≡ def_of (types_in w) (funcs_in w) e ∷ [])
    → Adds e w.types t → ((s : Spaces) → IsAt w s → IsEntrySettled (types_in w) (funcs_in w) e)
    → CoreStaysAfter x → Answers x w None (record w { component = d; types = t })
one_answer grows lays x w d e t fault after is a settled stays =
    types_answer grows lays x w None d t fault after (λ s at. a.own ∙ ap (λ v. own_types w.types ++ v) (sym (is s at))) (grown e w.types t a)
    (λ s at. settled_with e w.types t a at.settled (settled s at)) stays

-- ---- an alias of a type of the component

unless_here : (s : Spaces) (o : OuterType) (b : _) → (o.count == 0) ≡ b → least (broken s (alias_item (outer_type o))) ≡ least (unless b reason.NoSuchIndex ++ found (λ d. []) (slice_get s.types o.index))
unless_here s o b e = ap (λ v. least (unless v reason.NoSuchIndex ++ found (λ d. []) (slice_get s.types o.index))) e

pub elsewhere : (s : Spaces) (o : OuterType) → (o.count == 0) ≡ false → Some reason.NoSuchIndex ≡ least (broken s (alias_item (outer_type o)))
elsewhere s o e = sym (unless_here s o false e ∙ either_way (slice_get s.types o.index))
  where
    either_way : (d : Option TypeDef) → lesser (Some reason.NoSuchIndex) (least (found (λ d. []) d)) ≡ Some reason.NoSuchIndex
    either_way None = refl
    either_way (Some d) = refl

pub here : (s : Spaces) (o : OuterType) (d : Option TypeDef) → (o.count == 0) ≡ true → slice_get s.types o.index ≡ d → least (broken s (alias_item (outer_type o))) ≡ least (found (λ d. []) d)
here s o d e g = unless_here s o true e ∙ ap (λ (v : Option TypeDef). least (found (λ d. []) v)) g

-- ---- a definition

pub defined_is : (old now new : List TypeDef) (def : List TypeDef → TypeDef) (r : Option ValidReason) → now ≡ old → MatchOption r (new ≡ old ++ def old ∷ []) (λ q. new ≡ old) → MatchOption r (new ≡ old ++ def now ∷ []) (λ q. new ≡ old)
defined_is old now new def None e m = m ∙ ap (λ ts. old ++ def ts ∷ []) (sym e)
defined_is old now new def (Some q) e m = m

-- the same by a number
pub defined_with : (old new : List TypeDef) (def : ℕ → TypeDef) (m n : ℕ) (r : Option ValidReason) → m ≡ n → MatchOption r (new ≡ old ++ def m ∷ []) (λ q. new ≡ old) → MatchOption r (new ≡ old ++ def n ∷ []) (λ q. new ≡ old)
defined_with old new def m n None e h = h ∙ ap (λ k. old ++ def k ∷ []) e
defined_with old new def m n (Some q) e h = h

-- each type names only resources that the component has
pub counted_at : (ts : List TypeDef) (s : Spaces) (n : ℕ) → next_resource s ≡ n → s.types ≡ ts → AreSpacesCounted s → AllByRecursion (IsDefCounted n) ts
counted_at ts s n e is a = subst (AllByRecursion (IsDefCounted n)) is (subst (λ (m : ℕ). AllByRecursion (IsDefCounted m) s.types) e a.types)

-- ---- an alias of what an instance exports

module _ (a : AliasTree) (w : IndexSpaces) (d : ComponentSpaces) where
  pub broken_alias : (q : ValidReason) → AnswersAlias a w.component (aliased.Broken q) d → Answers (alias_item a) w (Some q) (record w { component = d })
  broken_alias q b = record {
    fault = λ s at. b.fault (types_in w) (funcs_in w) s at.component_is;
    after = λ s at. record {
      core_is = at.core_is;
      component_is = b.after (types_in w) (funcs_in w) s at.component_is;
      types_are = at.types_are;
      settled = at.settled;
      counted = at.counted;
      made_there = at.made_there;
      laid = at.laid;
    };
  }

  pub func_alias : CoreStaysAfter (alias_item a) → AnswersAlias a w.component aliased.Func d → Answers (alias_item a) w None (record w { component = d })
  func_alias stays b = component_answer (alias_item a) w None d (λ s at. b.fault (types_in w) (funcs_in w) s at.component_is) (λ s at. b.after (types_in w) (funcs_in w) s at.component_is) stays
      (λ s at. b.added (types_in w) (funcs_in w) s at.component_is refl)

  pub type_alias : ComponentGrows → LayoutsStay → CoreStaysAfter (alias_item a) → (e : TypeEntry) (t : TypeScope) → AnswersAlias a w.component (aliased.Type e) d → Adds e w.types t → Answers (alias_item a) w None (record w { component = d; types = t })
  type_alias grows lays stays e t b adds = one_answer grows lays (alias_item a) w d e t (λ s at. b.fault (types_in w) (funcs_in w) s at.component_is) (λ s at. b.after (types_in w) (funcs_in w) s at.component_is)
      (λ s at. b.added (types_in w) (funcs_in w) s at.component_is refl) adds (λ s at. b.settled (types_in w) (funcs_in w)) stays
