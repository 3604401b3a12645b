-- Each function that is imported comes to a lift of the same type, of a guest's core function.
use Rattle.std.proofs.Common.{◌≡◌, ◌∙◌, ℕ, zero, suc, ◌<◌, List, [], ◌∷◌, map, Bool, true, false, Option, Some, None, refl, ap, sym, subst, arith, slice_get, option_and_then}
use Rattle.std.specs.Prelude.{IfSome, if◌then◌else◌, unwrap_or}
use Rattle.std.specs.List.{AllByRecursion}
use Rattle.std.specs.Option.{option_map}
use Rattle.std.specs.Str.{bytes_eq}
use Rattle.cm_types.specs.Types.{FuncTy}
use Rattle.cm_binary_model.specs.Trees.{SectionTree}
use Rattle.cm_validate_model.specs.Definitions.{CoreFuncDef, ExportDef, exported_func, exported_instance, FuncDef, lifted, imported, MemberDef, func_member, type_member, NamedMember, func_type_of}
use Rattle.cm_validate_model.specs.Spaces.{Spaces, func_of_member, member_named, spaces_of}
use Rattle.cm_validate_model.specs.Imported.{IsAsImported, wanted_func}
use Rattle.cm_validate_model.specs.Sources.{OfExport, OfFunctions, OfMember, OfMembers}
use Rattle.cm_match_model.specs.Origins.{item_name}
use Rattle.cm_match_model.specs.Imports.{LinkSet, export_in, links_of}
use Rattle.cm_match_model.specs.Serving.{IsSameFunc}
use Rattle.cm_match_model.specs.Targets.{FuncAt, Target, exported_under, func_for, linked_func, serving_func, target_by, target_of, targets_of}
use Rattle.cm_match_model.proofs.LinkLaws.{lead_earlier}
use Rattle.cm_match_model.proofs.ListLemmas.{all_at, mapped}
use Rattle.cm_match_model.proofs.TargetLaws.{exists, serving_earlier}
use Rattle.cm_lemmas.proofs.Options.{some_is, stepped}

-- ---- what an export has

module _ (P : FuncDef → Type 0) where
  by_name : (d : MemberDef) (o : Option MemberDef) (b : Bool) → OfMember P d → IfSome o (OfMember P) → IfSome (if b then Some d else o) (OfMember P)
  by_name d o true k l = k
  by_name d o false k l = l

  named : (ms : List NamedMember) (name : List ℕ) → OfMembers P ms → IfSome (member_named ms name) (OfMember P)
  named [] name k = tt {0}
  named (m ∷ ms) name k = by_name m.def (member_named ms name) (bytes_eq m.name name) k.0 (named ms name k.1)

  of_member : (m : MemberDef) (h : FuncDef) → OfMember P m → func_of_member m ≡ Some h → P h
  of_member (func_member f) h k e = subst P (some_is f h e) k
  of_member (type_member d) h k e = cc e

  under : (name : List ℕ) (e : ExportDef) (h : FuncDef) → OfExport P e → exported_under name e ≡ Some h → P h
  under name (exported_func f) h k u = cc u
  under name (exported_instance ms) h k u =
      let m = stepped (member_named ms name) func_of_member h u in
      let has : OfMember P m.0 = subst (λ o. IfSome o (OfMember P)) m.1 (named ms name k) in
      of_member m.0 h has m.2

  of_export : (s : Spaces) (import : ℕ) (item : Option ℕ) (e : ExportDef) (h : FuncDef) → OfExport P e → func_for s import item e ≡ Some h → P h
  of_export s import None (exported_func f) h k u = subst P (some_is f h u) k
  of_export s import None (exported_instance ms) h k u = cc u
  of_export s import (Some item) e h k u =
      let name = stepped (item_name s import item) (λ name. exported_under name e) h u in
      under name.0 e h k name.2

-- ---- what is said of the functions of components, of what serves an import

Of : (ℕ → Spaces → FuncDef → Type 0) → List Spaces → FuncAt → Type 0
Of P set g = (t : Spaces) × (slice_get set g.component ≡ Some t) × P g.component t g.func

-- it holds of the functions of each component
abbrev pub Told : (ℕ → Spaces → FuncDef → Type 0) → List Spaces → Type 0
Told P set = (d : ℕ) (t : Spaces) → slice_get set d ≡ Some t → AllByRecursion (λ e. OfExport (P d t) e.def) t.exports

module _ (P : ℕ → Spaces → FuncDef → Type 0) (set : LinkSet) (told : Told P set.spaces) where
  of_component : (d k : ℕ) (e : ExportDef) → export_in set.spaces d k ≡ Some e → (t : Spaces) × (slice_get set.spaces d ≡ Some t) × OfExport (P d t) e
  of_component d k e h =
      let t = stepped (slice_get set.spaces d) (λ s. option_map (λ e. e.def) (slice_get s.exports k)) e h in
      let x = mapped (slice_get t.0.exports k) (λ e. e.def) e t.2 in
      (t.0, t.1, subst (OfExport (P d t.0)) x.2 (all_at (λ e. OfExport (P d t.0) e.def) t.0.exports (told d t.0 t.1) k x.0 x.1))

  of_serving : (c import : ℕ) (item : Option ℕ) (g : FuncAt) → serving_func set.spaces (links_of set) c import item ≡ Some g → Of P set.spaces g
  unfolding Of
  of_serving c import item g h =
      let s = stepped (slice_get set.spaces c) (λ s. option_and_then (linked_func set.spaces s import item) (links_of set c import)) g h in
      let l = stepped (links_of set c import) (linked_func set.spaces s.0 import item) g s.2 in
      let f = mapped (option_and_then (func_for s.0 import item) (export_in set.spaces l.0.component l.0.export)) (λ f. record { component = l.0.component; func = f }) g l.2 in
      let e = stepped (export_in set.spaces l.0.component l.0.export) (func_for s.0 import item) f.0 f.1 in
      let t = of_component l.0.component l.0.export e.0 e.1 in
      subst (Of P set.spaces) f.2 (t.0, t.1, of_export (P l.0.component t.0) s.0 import item e.0 f.0 t.2 e.2)

-- ---- imports come to lifts

module _ (set : LinkSet) where
  abbrev Reaching : ℕ → ℕ → Option ℕ → FuncTy → Type 0
  Reaching c import item f = (t : Target) × (targets_of set.spaces (links_of set) c import item ≡ Some t) × (t.component < c) × IsSameFunc set c f t.component t.ty

  abbrev Serving : Type 0
  Serving = (c : ℕ) (s : Spaces) → slice_get set.spaces c ≡ Some s → (import : ℕ) (item : Option ℕ) (f : FuncTy) → wanted_func s import item ≡ Some f
      → (g : FuncAt) × (serving_func set.spaces (links_of set) c import item ≡ Some g) × (g.component < c) × IsSameFunc set c f g.component (func_type_of g.func)

  module _ (told : Told (λ d. IsAsImported) set.spaces) (serving : Serving) where
    on : (d : ℕ) (h : FuncDef) (f : FuncTy) (c : ℕ) → IsSameFunc set c f d (func_type_of h) → Of (λ d. IsAsImported) set.spaces (record { component = d; func = h })
        → ((import : ℕ) (s : Spaces) (item : Option ℕ) (g : FuncTy) → slice_get set.spaces d ≡ Some s → wanted_func s import item ≡ Some g → Reaching d import item g)
        → (t : Target) × (target_by (targets_of set.spaces (links_of set)) d h ≡ Some t) × (t.component < suc d) × IsSameFunc set c f t.component t.ty
    unfolding Of
    on d (lifted k ty os) f c same of below = (record { component = d; core_func = k; ty = ty; options = os }, refl, omega arith, same)
    on d (imported import item ty) f c same of below =
        let t = below import of.0 item ty of.1 of.2 in
        (t.0, t.1, omega (arith, t.2), same ∙ t.3)

    reaching : (n c import : ℕ) (s : Spaces) (item : Option ℕ) (f : FuncTy) → c < n → slice_get set.spaces c ≡ Some s → wanted_func s import item ≡ Some f → Reaching c import item f
    reaching zero c import s item f lt there wanted = absurd (omega (arith, lt))
    reaching (suc n) c import s item f lt there wanted =
        let g = serving c s there import item f wanted in
        let t = on g.0.component g.0.func f c g.3 (of_serving (λ d. IsAsImported) set told c import item g.0 g.1) (λ i u k ty. reaching n g.0.component i u k ty (omega (arith, lt, g.2))) in
        (t.0, exists set.spaces (links_of set) (lead_earlier set) c import item ∙ ap (option_and_then (target_of (targets_of set.spaces (links_of set)))) g.1 ∙ t.1, omega (arith, t.2, g.2), t.3)

    pub reach : (c import : ℕ) (s : Spaces) (item : Option ℕ) (f : FuncTy) → slice_get set.spaces c ≡ Some s → wanted_func s import item ≡ Some f → Reaching c import item f
    reach c import s item f there wanted = reaching (suc c) c import s item f (omega arith) there wanted

-- ---- targets are lifts

-- what is said of the functions of components holds of the lift of a target
module _ (P : ℕ → Spaces → FuncDef → Type 0) (set : LinkSet) (told : Told P set.spaces) where
  abbrev OfLift : Target → Type 0
  OfLift t = (s : Spaces) × (slice_get set.spaces t.component ≡ Some s) × P t.component s (lifted t.core_func t.ty t.options)

  lift_by : (d : ℕ) (h : FuncDef) (t : Target) → Of P set.spaces (record { component = d; func = h }) → target_by (targets_of set.spaces (links_of set)) d h ≡ Some t
      → ((import : ℕ) (item : Option ℕ) → targets_of set.spaces (links_of set) d import item ≡ Some t → OfLift t) → OfLift t
  unfolding Of
  lift_by d (lifted k ty os) t of e below = subst OfLift (some_is (record { component = d; core_func = k; ty = ty; options = os }) t e) of
  lift_by d (imported import item ty) t of e below = below import item e

  lift_within : (n c import : ℕ) (item : Option ℕ) (t : Target) → c < n → targets_of set.spaces (links_of set) c import item ≡ Some t → OfLift t
  lift_within zero c import item t lt e = absurd (omega (arith, lt))
  lift_within (suc n) c import item t lt e =
      let g = stepped (serving_func set.spaces (links_of set) c import item) (target_of (targets_of set.spaces (links_of set))) t (sym (exists set.spaces (links_of set) (lead_earlier set) c import item) ∙ e) in
      let earlier = serving_earlier set.spaces (links_of set) c import item g.0 (lead_earlier set) g.1 in
      lift_by g.0.component g.0.func t (of_serving P set told c import item g.0 g.1) g.2 (λ i k u. lift_within n g.0.component i k t (omega (arith, lt, earlier)) u)

  pub of_lift : (c import : ℕ) (item : Option ℕ) (t : Target) → targets_of set.spaces (links_of set) c import item ≡ Some t → OfLift t
  of_lift c import item t e = lift_within (suc c) c import item t (omega arith) e

-- ---- of components

from_map : {A B : Type 0} (f : A → B) (is_so : A → Type 0) (xs : List A) → AllByRecursion is_so xs → (k : ℕ) (y : B) → slice_get (map f xs) k ≡ Some y → (x : A) × is_so x × (f x ≡ y)
from_map f is_so [] all k y h = cc h
from_map f is_so (x ∷ xs) all zero y h = (x, all.0, some_is (f x) y h)
from_map f is_so (x ∷ xs) all (suc k) y h = from_map f is_so xs all.1 k y h

pub told_of : (P : Spaces → FuncDef → Type 0) (Q : Spaces → CoreFuncDef → Type 0) (is_so : List SectionTree → Type 0)
    → ((sections : List SectionTree) → is_so sections → OfFunctions (P (spaces_of sections)) (Q (spaces_of sections)) (spaces_of sections))
    → (components : List (List SectionTree)) → AllByRecursion is_so components → Told (λ d. P) (map spaces_of components)
told_of P Q is_so has components all d t e =
    let sections = from_map spaces_of is_so components all d t e in
    subst (λ s. AllByRecursion (λ x. OfExport (P s) x.def) s.exports) sections.2 (has sections.0 sections.1).exports

pub all_any : {A : Type 0} (xs : List A) → AllByRecursion (λ x. Unit {0}) xs
all_any [] = tt {0}
all_any (x ∷ xs) = (tt {0}, all_any xs)

-- ---- where lifts are written

-- the sections of a component of a set
abbrev pub sections_at : List (List SectionTree) → ℕ → List SectionTree
sections_at components d = unwrap_or (slice_get components d) []

at_place : (components : List (List SectionTree)) (d : ℕ) (t : Spaces) → slice_get (map spaces_of components) d ≡ Some t → spaces_of (sections_at components d) ≡ t
at_place [] d t e = cc e
at_place (x ∷ xs) zero t e = some_is (spaces_of x) t e
at_place (x ∷ xs) (suc d) t e = at_place xs d t e

pub told_where : (P : List SectionTree → FuncDef → Type 0) (Q : List SectionTree → CoreFuncDef → Type 0)
    → ((sections : List SectionTree) → OfFunctions (P sections) (Q sections) (spaces_of sections))
    → (components : List (List SectionTree)) → Told (λ d s. P (sections_at components d)) (map spaces_of components)
told_where P Q has components d t e =
    subst (λ s. AllByRecursion (λ x. OfExport (P (sections_at components d)) x.def) s.exports) (at_place components d t e) (has (sections_at components d)).exports
