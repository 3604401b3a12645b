-- What calls answer for items.
use Rattle.std.specs.List.{AllByRecursion}
use Rattle.std.specs.Prelude.{is_some}
use Rattle.std.proofs.Common.{◌≡◌, ℕ, true, List, [], ◌++◌, map, Option, Some, None, refl, sym, ap, ◌∙◌, subst, append-nil, MatchOption}
use Rattle.cm_types.specs.Types.{Ty, FuncTy}
use Rattle.cm_layout_placed.specs.Placed.{AreOfFirst, layouts_in}
use Rattle.cm_layout.specs.Shapes.{LayoutTy}
use Rattle.cm_validate_model.specs.declared.fault.ValidReason.{ValidReason}
use Rattle.cm_validate_model.specs.Definitions.{CoreFuncDef, TypeDef}
use Rattle.cm_validate_model.specs.Items.{Item}
use Rattle.cm_validate_model.specs.Reasons.{least}
use Rattle.cm_validate_model.specs.Rules.{broken}
use Rattle.cm_validate_model.specs.Spaces.{Spaces, after_item, new_types}
use Rattle.cm_validate_core.specs.CoreSpaces.{Answers as CoreAnswers, IsCoreOf, StaysAfter as CoreStaysAfter, made_count}
use Rattle.cm_validate_core.specs.CoreSpaces as core
use Rattle.cm_validate_core.specs.declared.spaces.CoreSpaces.{CoreSpaces}
use Rattle.cm_validate_types.specs.SettledScopes.{AreSettled}
use Rattle.cm_validate_types.specs.Entries.{def_of, in_arena}
use Rattle.cm_validate_types.specs.Settled.{IsEntrySettled}
use Rattle.cm_validate_types.specs.TypeScopes.{HasGrown, arena_funcs, arena_types, entries_of, own_types}
use Rattle.cm_validate_types.specs.declared.entries.TypeEntry.{TypeEntry}
use Rattle.cm_validate_types.specs.declared.scope.TypeScope.{TypeScope}
use Rattle.cm_validate_entries.specs.ComponentSpaces.{AreTypesOf, IsComponentOf, StaysAfter, after_answer}
use Rattle.cm_validate_entries.specs.declared.spaces.ComponentSpaces.{ComponentSpaces}
use Rattle.cm_validate_spaces.specs.IndexSpaces.{Answers, IsAt, funcs_in, types_in}
use Rattle.cm_validate_spaces.specs.Made.{Tells}
use Rattle.cm_validate_spaces.specs.declared.spaces.IndexSpaces.{IndexSpaces}
use Rattle.cm_validate_spaces.proofs.MadeLaws.{defs_kept, still_there, tells, told_by}

-- the spaces after an answer: those before, or those after the item
pub either : (P : Spaces → Type 0) (x : Item) (s : Spaces) (r : Option ValidReason) → P s → (r ≡ None → P (after_item s x)) → P (after_answer r s x)
either P x s None p q = q refl
either P x s (Some e) p q = p

core_either : (x : Item) (tell : ℕ → CoreFuncDef) (c : CoreSpaces) (s : Spaces) (r : Option ValidReason) → IsCoreOf tell c (core.after_answer r s x) → IsCoreOf tell c (after_answer r s x)
core_either x tell c s None h = h
core_either x tell c s (Some e) h = h

pub none_more : (x : Item) (s : Spaces) (ts : List TypeDef) → new_types s x ≡ [] → s.types ≡ ts → (after_item s x).types ≡ ts
none_more x s ts none e = ap (λ v. s.types ++ v) none ∙ append-nil s.types ∙ e

-- an item of the core spaces
pub core_answer : (x : Item) (w : IndexSpaces) (r : Option ValidReason) (d : CoreSpaces) → CoreAnswers x w.core r d → made_count d ≡ made_count w.core
    → StaysAfter x → ((s : Spaces) → new_types s x ≡ []) → Answers x w r (record w { core = d })
core_answer x w r d a count stays none = record {
  fault = λ s at. a.fault (told_by (funcs_in w) w.made.items) s (at.core_is (told_by (funcs_in w) w.made.items) (tells (funcs_in w) w.made.items));
  after = λ s at. record {
    core_is = λ tell t. core_either x tell d s r (a.after tell s (at.core_is tell t));
    component_is = either (IsComponentOf (types_in w) (funcs_in w) w.component) x s r at.component_is (λ e. stays (types_in w) (funcs_in w) w.component s at.component_is);
    types_are = either (λ (v : Spaces). v.types ≡ own_types w.types) x s r at.types_are (λ e. none_more x s (own_types w.types) (none s) at.types_are);
    settled = at.settled;
    counted = count ∙ at.counted;
    made_there = at.made_there;
    laid = at.laid;
  };
}

-- a function, an instance, an import or an export
pub component_answer : (x : Item) (w : IndexSpaces) (r : Option ValidReason) (d : ComponentSpaces)
    → ((s : Spaces) → IsAt w s → r ≡ least (broken s x))
    → ((s : Spaces) → IsAt w s → IsComponentOf (types_in w) (funcs_in w) d (after_answer r s x))
    → CoreStaysAfter x → ((s : Spaces) → IsAt w s → new_types s x ≡ []) → Answers x w r (record w { component = d })
component_answer x w r d fault after stays none = record {
  fault = fault;
  after = λ s at. record {
    core_is = λ tell t. either (IsCoreOf tell w.core) x s r (at.core_is tell t) (λ e. stays tell w.core s (at.core_is tell t));
    component_is = after s at;
    types_are = either (λ (v : Spaces). v.types ≡ own_types w.types) x s r at.types_are (λ e. none_more x s (own_types w.types) (none s at) at.types_are);
    settled = at.settled;
    counted = at.counted;
    made_there = at.made_there;
    laid = at.laid;
  };
}

-- ---- types

-- the component's entries stay while the arena grows
abbrev pub ComponentGrows : Type 0
ComponentGrows =
    (types more : List Ty) (funcs others : List FuncTy) (c : ComponentSpaces) (s : Spaces) → IsComponentOf types funcs c s → IsComponentOf (types ++ more) (funcs ++ others) c s

-- the layouts of the first types too
abbrev pub LayoutsStay : Type 0
LayoutsStay = (ls : List LayoutTy) (types more : List Ty) → AreOfFirst ls types → AreOfFirst ls (types ++ more)

component_grown : ComponentGrows → (t u : TypeScope) (c : ComponentSpaces) (s : Spaces) → HasGrown t u → IsComponentOf (arena_types t) (arena_funcs t) c s → IsComponentOf (arena_types u) (arena_funcs u) c s
component_grown grows t u c s g h =
    subst (λ (types : List Ty). IsComponentOf types (arena_funcs u) c s) (sym g.0.1)
    (subst (λ (funcs : List FuncTy). IsComponentOf (arena_types t ++ g.0.0) funcs c s) (sym g.1.1) (grows (arena_types t) g.0.0 (arena_funcs t) g.1.0 c s h))

types_after : (x : Item) (s : Spaces) (r : Option ValidReason) (old new : List TypeDef) → s.types ≡ old → MatchOption r (new ≡ old ++ new_types s x) (λ q. new ≡ old) → (after_answer r s x).types ≡ new
types_after x s None old new e m = ap (λ v. v ++ new_types s x) e ∙ sym m
types_after x s (Some q) old new e m = e ∙ sym m

-- a type, and maybe a resource
pub types_answer : ComponentGrows → LayoutsStay → (x : Item) (w : IndexSpaces) (r : Option ValidReason) (d : ComponentSpaces) (t : TypeScope)
    → ((s : Spaces) → IsAt w s → r ≡ least (broken s x))
    → ((s : Spaces) → IsAt w s → IsComponentOf (types_in w) (funcs_in w) d (after_answer r s x))
    → ((s : Spaces) → IsAt w s → MatchOption r (own_types t ≡ own_types w.types ++ new_types s x) (λ q. own_types t ≡ own_types w.types))
    → HasGrown w.types t → ((s : Spaces) → IsAt w s → AreSettled t)
    → CoreStaysAfter x → Answers x w r (record w { component = d; types = t })
types_answer grows lays x w r d t fault after defined grown settled core_stays = record {
  fault = fault;
  after = λ s at. record {
    core_is = λ tell told.
        let h = at.core_is tell (subst (Tells tell) (defs_kept (funcs_in w) (arena_funcs t) w.made.items grown.1 at.made_there) told) in
        either (IsCoreOf tell w.core) x s r h (λ e. core_stays tell w.core s h);
    component_is = component_grown grows w.types t d (after_answer r s x) grown (after s at);
    types_are = types_after x s r (own_types w.types) (own_types t) at.types_are (defined s at);
    settled = settled s at;
    counted = at.counted;
    made_there = still_there (funcs_in w) (arena_funcs t) w.made.items grown.1 at.made_there;
    laid = subst (AreOfFirst (layouts_in w.layouts)) (sym grown.0.1) (lays (layouts_in w.layouts) (types_in w) grown.0.0 at.laid);
  };
}

pub component_stays : (x : Item) (w : IndexSpaces) (r : Option ValidReason) → StaysAfter x → (s : Spaces) → IsAt w s → IsComponentOf (types_in w) (funcs_in w) w.component (after_answer r s x)
component_stays x w r stays s at = either (IsComponentOf (types_in w) (funcs_in w) w.component) x s r at.component_is (λ e. stays (types_in w) (funcs_in w) w.component s at.component_is)

-- ---- what breaks a rule

pub fault_answer : (x : Item) (w : IndexSpaces) (q : ValidReason) → ((s : Spaces) → IsAt w s → Some q ≡ least (broken s x)) → Answers x w (Some q) w
fault_answer x w q fault = record { fault = fault; after = λ s at. at }

-- ---- the types by index

pub types_at : (w : IndexSpaces) (es : List TypeEntry) → es ≡ entries_of w.types → in_arena (types_in w) (funcs_in w) es ≡ true → (s : Spaces) → IsAt w s → AreTypesOf (types_in w) (funcs_in w) es s
types_at w es e there s at = record {
  types_are = at.types_are ∙ sym (ap (map (def_of (types_in w) (funcs_in w))) e);
  types_there = there;
  settled = subst (AllByRecursion (IsEntrySettled (types_in w) (funcs_in w))) (sym e) at.settled;
}

pub faulty_answer : (x : Item) (w : IndexSpaces) (r : Option ValidReason) → is_some r ≡ true → ((s : Spaces) → IsAt w s → r ≡ least (broken s x)) → Answers x w r w
faulty_answer x w None e fault = absurd cc
faulty_answer x w (Some q) e fault = fault_answer x w q fault

-- what the core spaces answer, whatever tells what was made
pub core_at : (w : IndexSpaces) (s : Spaces) (P : Spaces → Type 0) → IsAt w s → ((tell : ℕ → CoreFuncDef) (v : Spaces) → IsCoreOf tell w.core v → P v) → P s
core_at w s P k f = f (told_by (funcs_in w) w.made.items) s (k.core_is (told_by (funcs_in w) w.made.items) (tells (funcs_in w) w.made.items))
