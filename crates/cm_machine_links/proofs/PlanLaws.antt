-- The plan of a set that can be linked is one of the machine's.
use Rattle.std.proofs.Common.{inl, inr, ◌⊎◌, ◌≡◌, ◌∙◌, ◌<◌, ◌≤◌, ℕ, List, [], ◌∷◌, length, Bool, true, false, Option, Some, None, is_some, refl, ap, sym, subst, arith, slice_get, option_and_then}
use Rattle.std.specs.Prelude.{◌≢◌, not, nat_le, nat_lt, if◌then◌else◌}
use Rattle.std.specs.List.{AllByRecursion, list_any}
use Rattle.std.specs.Option.{option_map, option_map_or}
use Rattle.std.proofs.Math.Bool.{Bool-set}
use Rattle.std.proofs.Math.Logic.{∥∥₁_elim}
use Rattle.cm_types.specs.declared.resource.ResourceId.{ResourceId}
use Rattle.cm_types.specs.Holds.{fields_hold, holds, is_borrow, is_string}
use Rattle.cm_types.specs.Spellable.{are_spellable, is_spellable, is_spellable_payload}
use Rattle.cm_types.specs.Types.{Ty, Fields, FuncTy, fields, tuple_type}
use Rattle.cm_types.specs.Values.{HasType, Val}
use Rattle.cm_types_arena.specs.Replaced.{Standing, replaced, replaced_func}
use Rattle.cm_layout.specs.Flattening.{flat_of, flat_of_fields}
use Rattle.cm_layout.specs.Sizes.{align_of, size_of}
use Rattle.cm_binary_model.specs.declared.canons.CanonOption.{CanonOption}
use Rattle.cm_abi_model.specs.Parts.{element_part, parts_in}
use Rattle.cm_abi_model.specs.Receives.{leaves_in}
use Rattle.cm_abi_model.specs.Requests.{CanStore, call_parts, is_spilled, tuple_of}
use Rattle.cm_abi_model.specs.Views.{Way, params, results}
use Rattle.cm_validate_model.specs.Definitions.{CoreFuncDef, defined, dropping, guest, lifted, lowered, making, reading, ResourceDef, brought}
use Rattle.cm_validate_model.specs.Imported.{IsLoweredAsImported, wanted_func}
use Rattle.cm_validate_model.specs.Named.{AreOptionsThere, IsCoreWhole, IsGuestAt, IsLiftWhole, IsResourceWhole}
use Rattle.cm_validate_model.specs.Options.{is_latin1, is_pointer, is_realloc, params_hold, params_need_memory, result_holds}
use Rattle.cm_validate_model.specs.Spaces.{Spaces}
use Rattle.cm_match_model.specs.Imports.{LinkSet, links_of}
use Rattle.cm_match_model.specs.Origins.{definition_of, origin_of, resource_of}
use Rattle.cm_match_model.specs.Serving.{IsSameFunc, standing}
use Rattle.cm_match_model.specs.Targets.{Target, targets_of}
use Rattle.cm_machine_model.specs.Plan as plan
use Rattle.cm_machine_model.specs.Plan.{CoreFunc, Link, Plan, core_func_at, one_field, types_of}
use Rattle.cm_machine_model.specs.Plans.{HasAllocator, IsCoreFunc, IsGuest, IsGuestIfAny, IsLink, IsPlan, NoneBorrowed}
use Rattle.cm_machine_links.specs.Planning.{HaveOneType, IsPlanOf, core_def_in, core_func_of, destructor_in, destructor_of, encoding_of, first_in, link_to, origin_in, post_return_in, realloc_in}
use Rattle.cm_machine_links.specs.Standing.{EachStands, IsCoreSpelled, IsSpelled}
use Rattle.cm_machine_links.proofs.OptionFacts.{either, lift_latin1, lift_realloc, lower_latin1, lower_realloc, not_more, post_return_guest, realloc_guest, realloc_named, stored_in, stores}
use Rattle.cm_machine_links.proofs.PlanFacts.{all_from, as_many, plan_of, planned_at, each_stands}
use Rattle.cm_machine_links.proofs.TypeFacts.{no_parts, no_strings, none_borrowed}
use Rattle.cm_lemmas.proofs.Bools.{and_true, or_false, or_left, or_right}
use Rattle.cm_lemmas.proofs.Lists.{got_at}
use Rattle.cm_lemmas.proofs.Options.{some_in, stepped, still_some}

-- What is known of the components of a set that can be linked.
pub record Known (set : LinkSet) : Type 0 where
  pub few : length set.spaces ≤ 16
  pub cores : (c : ℕ) (s : Spaces) → slice_get set.spaces c ≡ Some s → AllByRecursion (IsCoreWhole s) s.core_funcs
  pub wanted : (c : ℕ) (s : Spaces) → slice_get set.spaces c ≡ Some s → AllByRecursion (IsLoweredAsImported s) s.core_funcs
  pub resources : (c : ℕ) (s : Spaces) → slice_get set.spaces c ≡ Some s → AllByRecursion (IsResourceWhole s) s.resources
  pub reach : (c import : ℕ) (s : Spaces) (item : Option ℕ) (f : FuncTy) → slice_get set.spaces c ≡ Some s → wanted_func s import item ≡ Some f
      → (t : Target) × (targets_of set.spaces (links_of set) c import item ≡ Some t) × (t.component < c)
  pub same : (c import : ℕ) (s : Spaces) (item : Option ℕ) (f : FuncTy) (t : Target) → slice_get set.spaces c ≡ Some s → wanted_func s import item ≡ Some f
      → targets_of set.spaces (links_of set) c import item ≡ Some t → ∥ IsSameFunc set c f t.component t.ty ∥₁
  pub lifts : (c import : ℕ) (item : Option ℕ) (t : Target) → targets_of set.spaces (links_of set) c import item ≡ Some t
      → (s : Spaces) × (slice_get set.spaces t.component ≡ Some s) × IsLiftWhole s (lifted t.core_func t.ty t.options)
  pub earlier : (r origin : ResourceId) → origin_of set.spaces (links_of set) r ≡ Some origin → origin.component ≤ r.component
  pub there : (r : ResourceId) → is_some (definition_of set.spaces r) ≡ true → is_some (origin_of set.spaces (links_of set) r) ≡ true
  pub itself : (r : ResourceId) (d : Option ℕ) → definition_of set.spaces r ≡ Some (defined d) → origin_of set.spaces (links_of set) r ≡ Some r

-- ---- lists and options

both : {A : Type 0} (P Q R : A → Type 0) → ((x : A) → P x → Q x → R x) → (xs : List A) → AllByRecursion P xs → AllByRecursion Q xs → AllByRecursion R xs
both P Q R f [] h k = tt
both P Q R f (x ∷ xs) h k = (f x h.0 k.0, both P Q R f xs h.1 k.1)

pub mapped : {A B : Type 0} (f : A → B) (o : Option A) (y : B) → option_map f o ≡ Some y → (x : A) × (o ≡ Some x) × (f x ≡ y)
mapped f None y h = cc h
mapped f (Some x) y h = (x, refl, some_in h)

-- ---- a result as fields

result_hold : (test : Ty → Bool) (o : Option Ty) → fields_hold test (one_field o) ≡ option_map_or (holds test) o false
result_hold test None = refl
result_hold test (Some t) = or_false (holds test t)

result_spelled : (o : Option Ty) → is_spellable_payload o ≡ true → are_spellable (one_field o) ≡ true
result_spelled None h = refl
result_spelled (Some t) h = and_true (is_spellable t) ∙ h

-- ---- parts

no_call_parts : (way : Way) (types : Fields) (v : Val) → is_spilled way types ≡ false → parts_in (tuple_of types) v ≡ [] → call_parts way types v ≡ []
no_call_parts way types v s p = rw s p

at_most_one : (b : Bool) (types : Fields) (v : Val) → parts_in (tuple_of types) v ≡ []
    → length (if b then element_part 1 (size_of (tuple_of types)) (align_of (tuple_of types)) ∷ parts_in (tuple_of types) v else parts_in (tuple_of types) v) ≤ 1
at_most_one true types v p = omega (arith, ap length p)
at_most_one false types v p = omega (arith, ap length p)

-- ---- what stays where resources are replaced

-- a test of a type that looks at no resource
abbrev Stays : (Ty → Bool) → Type 0
Stays test = (s : Standing) (t : Ty) → holds test (replaced s t) ≡ holds test t

result_stays : (test : Ty → Bool) → Stays test → (s : Standing) (f : FuncTy) → result_holds test (replaced_func s f) ≡ result_holds test f
result_stays test stays s f = by_result f.result
  where
    by_result : (o : Option Ty) → option_map_or (holds test) (option_map (replaced s) o) false ≡ option_map_or (holds test) o false
    by_result None = refl
    by_result (Some t) = stays s t

module _ (set : LinkSet) (k : Known set) where
  -- ---- each core function stands for something

  resource_there : (c n : ℕ) (s : Spaces) (r : ResourceDef) → slice_get set.spaces c ≡ Some s → slice_get s.resources n ≡ Some r → definition_of set.spaces (resource_of c n) ≡ Some r
  resource_there c n s r at e = ap (option_and_then (λ s. slice_get s.resources n)) at ∙ e

  origin_some : (c n : ℕ) (s : Spaces) (r : ResourceDef) → slice_get set.spaces c ≡ Some s → slice_get s.resources n ≡ Some r → is_some (origin_in set c n) ≡ true
  origin_some c n s r at e = k.there (resource_of c n) (ap is_some (resource_there c n s r at e))

  core_stands : (c : ℕ) (s : Spaces) (d : CoreFuncDef) → slice_get set.spaces c ≡ Some s → IsCoreWhole s d → IsLoweredAsImported s d → is_some (core_func_of set c d) ≡ true
  core_stands c s (guest e) at whole wanted = refl
  core_stands c s (lowered import item ty os) at whole wanted =
      still_some (λ t. plan.lowered (link_to set os t)) (targets_of set.spaces (links_of set) c import item) (ap is_some (k.reach c import s item ty at wanted).1)
  core_stands c s (making n) at whole wanted = still_some plan.makes (origin_in set c n) (origin_some c n s (defined whole.0) at whole.1)
  core_stands c s (dropping n) at whole wanted = still_some (λ r. plan.drops r (destructor_of set r)) (origin_in set c n) (origin_some c n s whole.0 at whole.1)
  core_stands c s (reading n) at whole wanted = still_some plan.represents (origin_in set c n) (origin_some c n s (defined whole.0) at whole.1)

  pub each : EachStands set 0 set.spaces
  each = all_from set 0 set.spaces (λ i m s e at.
      let there : slice_get set.spaces m ≡ Some s = subst (λ n. slice_get set.spaces n ≡ Some s) (omega (arith, e)) at in
      both (IsCoreWhole s) (IsLoweredAsImported s) (λ d. is_some (core_func_of set m d) ≡ true) (λ d. core_stands m s d there) s.core_funcs (k.cores m s there) (k.wanted m s there))

  pub is_plan_of : IsPlanOf set (plan_of set)
  is_plan_of = record {
    instances = as_many set 0 set.spaces;
    core_funcs = λ c f. planned_at set c f each;
    each = λ c f d at. each_stands set c f d each at;
  }

  -- ---- one type for both sides

  pub one_type : HaveOneType set
  one_type c f import item ty os t at to =
      let s = stepped (slice_get set.spaces c) (λ s. slice_get s.core_funcs f) (lowered import item ty os) at in
      k.same c import s.0 item ty t s.1 (got_at (IsLoweredAsImported s.0) s.0.core_funcs f (lowered import item ty os) (k.wanted c s.0 s.1) s.2) to

  -- ---- guests

  is_guest : (c f : ℕ) (s : Spaces) → slice_get set.spaces c ≡ Some s → IsGuestAt s f → IsGuest (plan_of set) c f
  is_guest c f s at g =
      planned_at set c f each
      ∙ ap (option_and_then (core_func_of set c)) (ap (option_and_then (λ s. slice_get s.core_funcs f)) at ∙ g.1)

  realloc_is_guest : (c : ℕ) (s : Spaces) (os : List CanonOption) (o : Option ℕ) → slice_get set.spaces c ≡ Some s → AreOptionsThere s os → first_in realloc_in os ≡ o → IsGuestIfAny (plan_of set) c o
  realloc_is_guest c s os None at there e = tt
  realloc_is_guest c s os (Some f) at there e = is_guest c f s at (realloc_guest s os f there e)

  post_return_is_guest : (c : ℕ) (s : Spaces) (os : List CanonOption) (o : Option ℕ) → slice_get set.spaces c ≡ Some s → AreOptionsThere s os → first_in post_return_in os ≡ o → IsGuestIfAny (plan_of set) c o
  post_return_is_guest c s os None at there e = tt
  post_return_is_guest c s os (Some f) at there e = is_guest c f s at (post_return_guest s os f there e)

  -- ---- destructors

  destructor_by : (r : ResourceId) (s : Spaces) (d : ResourceDef) (o : Option ℕ) → slice_get set.spaces r.component ≡ Some s → IsResourceWhole s d → destructor_in d ≡ o → IsGuestIfAny (plan_of set) r.component o
  destructor_by r s d None at whole e = tt
  destructor_by r s (defined None) (Some f) at whole e = cc e
  destructor_by r s (defined (Some g)) (Some f) at whole e = is_guest r.component f s at (subst (IsGuestAt s) (some_in e) whole)
  destructor_by r s (brought i n) (Some f) at whole e = cc e

  destructor_runs : (r : ResourceId) (o : Option ℕ) → destructor_of set r ≡ o → IsGuestIfAny (plan_of set) r.component o
  destructor_runs r None e = tt
  destructor_runs r (Some f) e =
      let d = stepped (definition_of set.spaces r) destructor_in f e in
      let s = stepped (slice_get set.spaces r.component) (λ s. slice_get s.resources r.number) d.0 d.1 in
      destructor_by r s.0 d.0 (Some f) s.1 (got_at (IsResourceWhole s.0) s.0.resources r.number d.0 (k.resources r.component s.0 s.1) s.2) d.2

  -- ---- resources

  made_here : (c n : ℕ) (s : Spaces) (d : Option ℕ) (r : ResourceId) → slice_get set.spaces c ≡ Some s → slice_get s.resources n ≡ Some (defined d) → origin_in set c n ≡ Some r → r.component ≡ c
  made_here c n s d r at e o = ap (λ q. q.component) (some_in (sym o ∙ k.itself (resource_of c n) d (resource_there c n s (defined d) at e)))

  -- ---- links

  module _ (strings : Stays is_string) (borrows : Stays is_borrow) (pointers : Stays is_pointer) (flat : (s : Standing) (t : Ty) → flat_of (replaced s t) ≡ flat_of t) where
    -- a test of the result is the same on both sides
    same_result : (test : Ty → Bool) → Stays test → (c import : ℕ) (s : Spaces) (item : Option ℕ) (ty : FuncTy) (os : List CanonOption) (t : Target)
        → slice_get set.spaces c ≡ Some s → wanted_func s import item ≡ Some ty → targets_of set.spaces (links_of set) c import item ≡ Some t
        → result_holds test ty ≡ result_holds test (link_to set os t).type
    same_result test stays c import s item ty os t at wanted to =
        ∥∥₁_elim (k.same c import s item ty t at wanted to) (Bool-set _ _)
        (λ same. sym (result_stays test stays (standing set c) ty) ∙ ap (result_holds test) same)

    results_stored_by : (os : List CanonOption) (o : Option Ty) → (list_any is_latin1 os ≡ false) ⊎ (option_map_or (holds is_string) o false ≡ false) → CanStore (encoding_of os) (one_field o)
    results_stored_by os o (inl none) = inl (stored_in os none)
    results_stored_by os o (inr none) = inr (no_strings (one_field o) (result_hold is_string o ∙ none))

    module _ (c import : ℕ) (s : Spaces) (item : Option ℕ) (ty : FuncTy) (os : List CanonOption) (t : Target)
        (at : slice_get set.spaces c ≡ Some s) (wanted : wanted_func s import item ≡ Some ty) (to : targets_of set.spaces (links_of set) c import item ≡ Some t)
        (whole : IsCoreWhole s (lowered import item ty os)) (earlier : t.component < c) (spelled : IsSpelled (link_to set os t).type) where
      abbrev l : Link
      l = link_to set os t

      abbrev there : (u : Spaces) × (slice_get set.spaces t.component ≡ Some u) × IsLiftWhole u (lifted t.core_func t.ty t.options)
      there = k.lifts c import item t to

      params_by : (list_any is_latin1 t.options ≡ false) ⊎ (params_hold is_string t.ty ≡ false) → CanStore (encoding_of t.options) l.type.params
      params_by (inl none) = inl (stored_in t.options none)
      params_by (inr none) = inr (no_strings l.type.params (strings (standing set t.component) (fields tuple_type t.ty.params) ∙ none))

      -- an allocator for the parameters
      params_asked : (v : Val) → HasType (tuple_of l.type.params) v → call_parts params l.type.params v ≢ []
          → (list_any is_realloc t.options ≡ true) ⊎ (params_need_memory t.ty ≡ false) → is_some (first_in realloc_in t.options) ≡ true
      params_asked v typed asks (inl named) = realloc_named t.options named
      params_asked v typed asks (inr none) =
          let held : params_hold is_pointer t.ty ≡ false = or_left (params_hold is_pointer t.ty) (not (nat_le (length (flat_of_fields t.ty.params)) 16)) none in
          let few : not (nat_le (length (flat_of_fields t.ty.params)) 16) ≡ false = or_right (params_hold is_pointer t.ty) (not (nat_le (length (flat_of_fields t.ty.params)) 16)) none in
          let flat_is : flat_of_fields l.type.params ≡ flat_of_fields t.ty.params = flat (standing set t.component) (fields tuple_type t.ty.params) in
          let passed : is_spilled params l.type.params ≡ false = ap (λ ks. nat_lt 16 (length ks)) flat_is ∙ not_more (length (flat_of_fields t.ty.params)) 16 few in
          let nothing = no_parts (tuple_of l.type.params) v typed (pointers (standing set t.component) (fields tuple_type t.ty.params) ∙ held) in
          absurd (asks (no_call_parts params l.type.params v passed nothing))

      -- an allocator for the result
      result_parts : (v : Val) → HasType (tuple_of (one_field l.type.result)) v → result_holds is_pointer ty ≡ false → parts_in (tuple_of (one_field l.type.result)) v ≡ []
      result_parts v typed none =
          no_parts (tuple_of (one_field l.type.result)) v typed
          (result_hold is_pointer l.type.result ∙ sym (same_result is_pointer pointers c import s item ty os t at wanted to) ∙ none)

      result_asked : (v : Val) → HasType (tuple_of (one_field l.type.result)) v → 1 < length (call_parts results (one_field l.type.result) v)
          → (list_any is_realloc os ≡ true) ⊎ (result_holds is_pointer ty ≡ false) → is_some (first_in realloc_in os) ≡ true
      result_asked v typed asks (inl named) = realloc_named os named
      result_asked v typed asks (inr none) =
          let most = at_most_one (is_spilled results (one_field l.type.result)) (one_field l.type.result) v (result_parts v typed none) in
          absurd (omega (arith, asks, most))

      passed_asked : (v : Val) → HasType (tuple_of (one_field l.type.result)) v → is_spilled results (one_field l.type.result) ≡ false → call_parts results (one_field l.type.result) v ≢ []
          → (list_any is_realloc os ≡ true) ⊎ (result_holds is_pointer ty ≡ false) → is_some (first_in realloc_in os) ≡ true
      passed_asked v typed passed asks (inl named) = realloc_named os named
      passed_asked v typed passed asks (inr none) = absurd (asks (no_call_parts results (one_field l.type.result) v passed (result_parts v typed none)))

      callee_either : (list_any is_realloc t.options ≡ true) ⊎ (params_need_memory t.ty ≡ false)
      callee_either = either (list_any is_realloc t.options) (params_need_memory t.ty) (lift_realloc t.options t.ty there.2.2)

      caller_either : (list_any is_realloc os ≡ true) ⊎ (result_holds is_pointer ty ≡ false)
      caller_either = either (list_any is_realloc os) (result_holds is_pointer ty) (lower_realloc os ty whole.1)

      has_allocator : HasAllocator l
      has_allocator = (
        λ v typed asks. params_asked v typed asks callee_either,
        λ v typed asks. result_asked v typed asks caller_either,
        λ v typed passed asks. passed_asked v typed passed asks caller_either,
      )

      caller_stores : CanStore (encoding_of os) (one_field l.type.result)
      caller_stores =
          results_stored_by os l.type.result
          (subst (λ b. (list_any is_latin1 os ≡ false) ⊎ (b ≡ false)) (same_result is_string strings c import s item ty os t at wanted to)
          (stores (result_holds is_string ty) os (lower_latin1 os ty whole.1)))

      none_back : (v : Val) → NoneBorrowed (leaves_in (tuple_of (one_field l.type.result)) v)
      none_back v =
          none_borrowed (tuple_of (one_field l.type.result)) v
          (result_hold is_borrow l.type.result ∙ result_stays is_borrow borrows (standing set t.component) t.ty ∙ there.2.3)

      pub is_link : IsLink (plan_of set) c l
      is_link = record {
        earlier = earlier;
        params_spellable = spelled.0;
        results_spellable = result_spelled l.type.result spelled.1;
        params_stored = params_by (stores (params_hold is_string t.ty) t.options (lift_latin1 t.options t.ty there.2.2));
        results_stored = caller_stores;
        body = is_guest t.component t.core_func there.0 there.1 there.2.0;
        callee_realloc = realloc_is_guest t.component there.0 t.options (first_in realloc_in t.options) there.1 there.2.1 refl;
        caller_realloc = realloc_is_guest c s os (first_in realloc_in os) at whole.0 refl;
        post_return = post_return_is_guest t.component there.0 t.options (first_in post_return_in t.options) there.1 there.2.1 refl;
        allocators = has_allocator;
        none_lent_back = none_back;
      }

    -- ---- the plan

    module _ (spelled : (c f : ℕ) (d : CoreFuncDef) (p : CoreFunc) → core_def_in set c f ≡ Some d → core_func_of set c d ≡ Some p → IsCoreSpelled p) where
      core_is : (c f : ℕ) (s : Spaces) (d : CoreFuncDef) (p : CoreFunc) → slice_get set.spaces c ≡ Some s → slice_get s.core_funcs f ≡ Some d → core_def_in set c f ≡ Some d
          → core_func_of set c d ≡ Some p → IsCoreFunc (plan_of set) c p
      core_is c f s (guest e) p at is here stands = subst (IsCoreFunc (plan_of set) c) (some_in stands) tt
      core_is c f s (lowered import item ty os) p at is here stands =
          let whole = got_at (IsCoreWhole s) s.core_funcs f (lowered import item ty os) (k.cores c s at) is in
          let wanted = got_at (IsLoweredAsImported s) s.core_funcs f (lowered import item ty os) (k.wanted c s at) is in
          let r = k.reach c import s item ty at wanted in
          let p_is : plan.lowered (link_to set os r.0) ≡ p = some_in (sym (ap (option_map (λ t. plan.lowered (link_to set os t))) r.1) ∙ stands) in
          let spell : IsCoreSpelled (plan.lowered (link_to set os r.0)) = subst IsCoreSpelled (sym p_is) (spelled c f (lowered import item ty os) p here stands) in
          subst (IsCoreFunc (plan_of set) c) p_is (is_link c import s item ty os r.0 at wanted r.1 whole r.2 spell)
      core_is c f s (making n) p at is here stands =
          let whole = got_at (IsCoreWhole s) s.core_funcs f (making n) (k.cores c s at) is in
          let r = mapped plan.makes (origin_in set c n) p stands in
          subst (IsCoreFunc (plan_of set) c) r.2 (made_here c n s whole.0 r.0 at whole.1 r.1)
      core_is c f s (dropping n) p at is here stands =
          let r = mapped (λ r. plan.drops r (destructor_of set r)) (origin_in set c n) p stands in
          subst (IsCoreFunc (plan_of set) c) r.2 (record { earlier = k.earlier (resource_of c n) r.0 r.1; runs = destructor_runs r.0 (destructor_of set r.0) refl })
      core_is c f s (reading n) p at is here stands =
          let whole = got_at (IsCoreWhole s) s.core_funcs f (reading n) (k.cores c s at) is in
          let r = mapped plan.represents (origin_in set c n) p stands in
          subst (IsCoreFunc (plan_of set) c) r.2 (made_here c n s whole.0 r.0 at whole.1 r.1)

      stands_at : (c f : ℕ) (p : CoreFunc) → core_func_at (plan_of set) c f ≡ Some p → (d : CoreFuncDef) × (core_def_in set c f ≡ Some d) × (core_func_of set c d ≡ Some p)
      stands_at c f p at = stepped (core_def_in set c f) (core_func_of set c) p (sym (planned_at set c f each) ∙ at)

      drops_own : (c : ℕ) (d : CoreFuncDef) (r : ResourceId) (o : Option ℕ) → core_func_of set c d ≡ Some (plan.drops r o) → o ≡ destructor_of set r
      drops_own c (guest e) r o at = cc at
      drops_own c (lowered import item ty os) r o at = let t = mapped (λ t. plan.lowered (link_to set os t)) (targets_of set.spaces (links_of set) c import item) (plan.drops r o) at in cc (t.2)
      drops_own c (making n) r o at = let q = mapped plan.makes (origin_in set c n) (plan.drops r o) at in cc (q.2)
      drops_own c (dropping n) r o at =
          let q = mapped (λ r. plan.drops r (destructor_of set r)) (origin_in set c n) (plan.drops r o) at in
          let same_r : q.0 ≡ r = cc (q.2) in
          let same_o : destructor_of set q.0 ≡ o = cc (q.2) in
          sym same_o ∙ ap (destructor_of set) same_r
      drops_own c (reading n) r o at = let q = mapped plan.represents (origin_in set c n) (plan.drops r o) at in cc (q.2)

      pub is_plan : IsPlan (plan_of set)
      is_plan = record {
        few = omega (arith, k.few, as_many set 0 set.spaces);
        core_funcs = λ c f p at.
            let d = stands_at c f p at in
            let s = stepped (slice_get set.spaces c) (λ s. slice_get s.core_funcs f) d.0 d.1 in
            core_is c f s.0 d.0 p s.1 s.2 d.1 d.2;
        one_destructor = λ i j f g r d e at to.
            let x = stands_at i f (plan.drops r d) at in
            let y = stands_at j g (plan.drops r e) to in
            drops_own i x.0 r d x.2 ∙ sym (drops_own j y.0 r e y.2);
      }
