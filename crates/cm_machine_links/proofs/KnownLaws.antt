-- What is known of the components of a linked set.
use Rattle.std.proofs.Common.{◌≡◌, ◌∙◌, ◌<◌, ◌≤◌, ℕ, zero, suc, List, [], ◌∷◌, map, true, Option, Some, None, is_some, refl, sym, subst, slice_get}
use Rattle.std.specs.List.{AllByRecursion}
use Rattle.std.specs.Coded.{le_prop}
use Rattle.std.proofs.Math.Logic.{∥∥₁_elim, ∥∥₁_map}
use Rattle.cm_types.specs.declared.resource.ResourceId.{ResourceId}
use Rattle.cm_types.specs.Types.{FuncTy}
use Rattle.cm_binary_model.specs.Trees.{SectionTree}
use Rattle.cm_validate_model.specs.Definitions.{defined, lifted}
use Rattle.cm_validate_model.specs.Imported.{IsAsImported, IsLoweredAsImported, wanted_func}
use Rattle.cm_validate_model.specs.Named.{IsCoreWhole, IsLiftWhole, IsResourceWhole}
use Rattle.cm_validate_model.specs.Sources.{OfFunctions}
use Rattle.cm_validate_model.specs.Spaces.{Spaces, spaces_of}
use Rattle.cm_validate_model.specs.Valid.{IsValid}
use Rattle.cm_match_model.specs.Imports.{LinkSet, Sees, links_of, seen_by}
use Rattle.cm_match_model.specs.Links.{CanBeLinked}
use Rattle.cm_match_model.specs.Origins.{AreOrigins, LeadEarlier, Links, Table, definition_of, origin_of}
use Rattle.cm_match_model.specs.Serving.{IsSameFunc}
use Rattle.cm_match_model.specs.Targets.{Target, targets_of}
use Rattle.cm_machine_links.proofs.PlanLaws.{Known}
use Rattle.cm_lemmas.proofs.Options.{some_in}

-- the sections of a component
section_at : (components : List (List SectionTree)) (k : ℕ) (s : Spaces) → AllByRecursion IsValid components → slice_get (map spaces_of components) k ≡ Some s
    → (sections : List SectionTree) × IsValid sections × (spaces_of sections ≡ s)
section_at [] k s valid at = cc at
section_at (x ∷ xs) zero s valid at = (x, valid.0, cc at)
section_at (x ∷ xs) (suc k) s valid at = section_at xs k s valid.1 at

nothing_prop : IsProp ⊥
nothing_prop a b = absurd a

-- what is merely found is found where an answer can be read off
found_in : (o : Option Target) (c : ℕ) → ∥ ((t : Target) × (o ≡ Some t) × (t.component < c)) ∥₁ → (t : Target) × (o ≡ Some t) × (t.component < c)
found_in None c h = absurd (∥∥₁_elim h nothing_prop (λ r. absurd (cc (r.1))))
found_in (Some u) c h = (u, refl, ∥∥₁_elim h le_prop (λ r. subst (λ (t : Target). t.component < c) (sym (some_in r.1)) r.2))

module _ (components : List (List SectionTree)) (sees : Sees) (merely : ∥ CanBeLinked (seen_by sees (map spaces_of components)) ∥₁) (valid : AllByRecursion IsValid components)
    (as_imported : (sections : List SectionTree) → OfFunctions (IsAsImported (spaces_of sections)) (IsLoweredAsImported (spaces_of sections)) (spaces_of sections))
    (whole : (sections : List SectionTree) → IsValid sections → OfFunctions (IsLiftWhole (spaces_of sections)) (IsCoreWhole (spaces_of sections)) (spaces_of sections))
    (destructors : (sections : List SectionTree) → IsValid sections → AllByRecursion (IsResourceWhole (spaces_of sections)) (spaces_of sections).resources)
    (reach : (components : List (List SectionTree)) (sees : Sees) → CanBeLinked (seen_by sees (map spaces_of components))
    → (c import : ℕ) (s : Spaces) (item : Option ℕ) (f : FuncTy)
    → slice_get (map spaces_of components) c ≡ Some s → wanted_func s import item ≡ Some f
    → (t : Target) × (targets_of (map spaces_of components) (links_of (seen_by sees (map spaces_of components))) c import item ≡ Some t)
    × (t.component < c) × IsSameFunc (seen_by sees (map spaces_of components)) c f t.component t.ty)
    (lifts : (components : List (List SectionTree)) (sees : Sees) → AllByRecursion IsValid components
    → (c import : ℕ) (item : Option ℕ) (t : Target)
    → targets_of (map spaces_of components) (links_of (seen_by sees (map spaces_of components))) c import item ≡ Some t
    → (s : Spaces) × (slice_get (map spaces_of components) t.component ≡ Some s) × IsLiftWhole s (lifted t.core_func t.ty t.options))
    (lead : (set : LinkSet) → LeadEarlier (links_of set))
    (one : (set : List Spaces) (links : Links) → LeadEarlier links → AreOrigins set links (origin_of set links))
    (itself : (set : List Spaces) (links : Links) (table : Table) → AreOrigins set links table → (r : ResourceId) (destructor : Option ℕ)
    → definition_of set r ≡ Some (defined destructor) → table r ≡ Some r)
    (earlier : (set : List Spaces) (links : Links) → LeadEarlier links → (r origin : ResourceId) → origin_of set links r ≡ Some origin → origin.component ≤ r.component)
    (there : (set : List Spaces) (links : Links) (r : ResourceId) → is_some (definition_of set r) ≡ true → is_some (origin_of set links r) ≡ true)
  where
    abbrev set : LinkSet
    set = seen_by sees (map spaces_of components)

    same_func : (c import : ℕ) (s : Spaces) (item : Option ℕ) (f : FuncTy) (t : Target) → slice_get set.spaces c ≡ Some s → wanted_func s import item ≡ Some f
        → targets_of set.spaces (links_of set) c import item ≡ Some t → ∥ IsSameFunc set c f t.component t.ty ∥₁
    same_func c import s item f t at wanted to =
        ∥∥₁_map merely (λ can.
        let r = reach components sees can c import s item f at wanted in
        subst (λ (u : Target). IsSameFunc set c f u.component u.ty) (some_in (sym r.1 ∙ to)) r.3)

    pub known : Known set
    known = record {
      few = ∥∥₁_elim merely le_prop (λ can. can.few);
      cores = λ c s at. let x = section_at components c s valid at in subst (λ (v : Spaces). AllByRecursion (IsCoreWhole v) v.core_funcs) x.2 (whole x.0 x.1).core_funcs;
      wanted = λ c s at. let x = section_at components c s valid at in subst (λ (v : Spaces). AllByRecursion (IsLoweredAsImported v) v.core_funcs) x.2 (as_imported x.0).core_funcs;
      resources = λ c s at. let x = section_at components c s valid at in subst (λ (v : Spaces). AllByRecursion (IsResourceWhole v) v.resources) x.2 (destructors x.0 x.1);
      reach = λ c import s item f at wanted.
          found_in (targets_of set.spaces (links_of set) c import item) c
          (∥∥₁_map merely (λ can. let r = reach components sees can c import s item f at wanted in (r.0, r.1, r.2)));
      same = same_func;
      lifts = lifts components sees valid;
      earlier = earlier set.spaces (links_of set) (lead set);
      there = there set.spaces (links_of set);
      itself = itself set.spaces (links_of set) (origin_of set.spaces (links_of set)) (one set.spaces (links_of set) (lead set));
    }
