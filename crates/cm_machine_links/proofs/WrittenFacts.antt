-- The plan of a set is as its components write it.
use Rattle.std.proofs.Common.{◌≡◌, ◌∙◌, ◌<◌, ◌≤◌, ℕ, zero, suc, List, [], ◌∷◌, ◌++◌, length, map, Bool, true, false, Option, Some, None, is_some, refl, ap, sym, subst, arith, inl, inr, ◌⊎◌, slice_get, option_and_then}
use Rattle.std.specs.Prelude.{◌&&◌, Contains, cond, nat_le, unwrap_or, filter, slice_index_or}
use Rattle.std.specs.List.{AllByRecursion, flat_map}
use Rattle.std.specs.Option.{option_or}
use Rattle.cm_types.specs.declared.resource.ResourceId.{ResourceId}
use Rattle.cm_types.specs.DefTypes.{resource_def}
use Rattle.cm_binary_model.specs.Trees.{SectionTree, lift, lower}
use Rattle.cm_binary_model.specs.declared.canons.CanonOption.{CanonOption}
use Rattle.cm_binary_model.specs.declared.canons.CanonOption.TheVariants as option
use Rattle.cm_abi_model.specs.declared.encoding.StringEncoding.TheVariants as encoding
use Rattle.cm_validate_model.specs.declared.fault.ValidReason.TheVariants as reason
use Rattle.cm_validate_model.specs.Definitions.{CoreFuncDef, FuncDef, defined, guest, lifted, imported, lowered, making, dropping, reading}
use Rattle.cm_validate_model.specs.Items.{Item, all_items, canon_item, type_item}
use Rattle.cm_validate_model.specs.Named.{IsCoreWhole, IsLiftWhole}
use Rattle.cm_validate_model.specs.Options.{are_once, guest_broken, is_encoding, is_memory, is_once, is_post_return, is_realloc, lift_type_broken, no_post_return_broken, option_broken, options_broken}
use Rattle.cm_validate_model.specs.Reasons.{found, if_found, unless}
use Rattle.cm_validate_model.specs.Rules.{func_ty_at, lowered_broken, type_index_broken}
use Rattle.cm_validate_model.specs.Sources.{IsAdded, IsCoreAdded, IsItemAt, OfFunctions, by_drop, by_import, by_item, by_lift, by_lower, by_new, by_rep, of_guest}
use Rattle.cm_validate_model.specs.Spaces.{Spaces, empty_spaces, next_resource, spaces_of}
use Rattle.cm_validate_model.specs.TypeRules.{has_sort}
use Rattle.cm_validate_model.specs.Valid.{IsValid, IsValidFrom}
use Rattle.cm_validate_model.specs.declared.sorts.TypeSort.TheVariants as sort
use Rattle.cm_match_model.specs.Imports.{LinkSet, Sees, links_of, seen_by}
use Rattle.cm_match_model.specs.Origins.{AreOrigins, LeadEarlier, Links, Table, definition_of, origin_of, resource_of}
use Rattle.cm_match_model.specs.Targets.{Target, targets_of}
use Rattle.cm_machine_model.specs.Plan as plan
use Rattle.cm_machine_model.specs.Plan.{CoreFunc, Plan}
use Rattle.cm_machine_links.specs.Planning.{IsPlanOf, core_def_in, core_func_of, destructor_in, destructor_of, encoding_in, encoding_of, first_in, link_to, origin_in, post_return_in, realloc_in, side_of}
use Rattle.cm_machine_links.specs.Written.{IsCoreFuncWritten, IsDropWritten, IsLinkWritten, IsPlanWritten, WritesEncoding, WritesFunc, WritesSide, items_at, sections_at}
use Rattle.cm_machine_links.proofs.PlanLaws.{mapped}
use Rattle.cm_lemmas.proofs.Bools.{both_left, both_right}
use Rattle.cm_lemmas.proofs.Lists.{got_at, in_head, nil_front, nil_rest, none_in}
use Rattle.cm_validate_model.proofs.NamedLaws.{item_breaks_nothing}
use Rattle.cm_validate_model.proofs.ReasonsLaws.{kept}
use Rattle.cm_lemmas.proofs.Options.{some_in}

-- ---- lists

in_tail : {A : Type 0} (y : A) (ys : List A) (x : A) → Contains (y ∷ ys) x → (y ≡ x) ⊎ Contains ys x
in_tail y ys x c = at c.0 c.1 c.2
  where
    at : (k : ℕ) → k < length (y ∷ ys) → slice_index_or (y ∷ ys) k x ≡ x → (y ≡ x) ⊎ Contains ys x
    at zero lt e = inl e
    at (suc k) lt e = inr (k, omega (arith, lt), e)

more_in : {A : Type 0} (y : A) (ys : List A) (x : A) → Contains ys x → Contains (y ∷ ys) x
more_in y ys x c = (suc c.0, omega (arith, c.1), c.2)

-- ---- one option of a kind

-- a kind of options is those that say something
abbrev IsKindOf : {A : Type 0} → (CanonOption → Bool) → (CanonOption → Option A) → Type 0
IsKindOf kind said = (o : CanonOption) → kind o ≡ is_some (said o)

one_more : (kind : CanonOption → Bool) (x : CanonOption) (xs : List CanonOption) → kind x ≡ true → length (filter kind (x ∷ xs)) ≡ suc (length (filter kind xs))
one_more kind x xs h = ap (λ b. length (cond b (x ∷ filter kind xs) (filter kind xs))) h

no_more : (kind : CanonOption → Bool) (x : CanonOption) (xs : List CanonOption) → kind x ≡ false → length (filter kind (x ∷ xs)) ≡ length (filter kind xs)
no_more kind x xs h = ap (λ b. length (cond b (x ∷ filter kind xs) (filter kind xs))) h

bool_of : (b : Bool) → (b ≡ true) ⊎ (b ≡ false)
bool_of true = inl refl
bool_of false = inr refl

some_passes : (kind : CanonOption → Bool) (os : List CanonOption) (o : CanonOption) → Contains os o → kind o ≡ true → 0 < length (filter kind os)
some_passes kind [] o c h = absurd (none_in o c)
some_passes kind (x ∷ xs) o c h = by (λ i. some_passes kind xs o i h) (bool_of (kind x)) (in_tail x xs o c)
  where
    by : (Contains xs o → 0 < length (filter kind xs)) → (kind x ≡ true) ⊎ (kind x ≡ false) → (x ≡ o) ⊎ Contains xs o → 0 < length (filter kind (x ∷ xs))
    by more (inl k) i = omega (arith, one_more kind x xs k)
    by more (inr k) (inl e) = cc (k, h, ap kind e)
    by more (inr k) (inr i) = omega (arith, no_more kind x xs k, more i)

module _ {A : Type 0} (kind : CanonOption → Bool) (said : CanonOption → Option A) (same : IsKindOf kind said) where
  silent : (o : Option A) → is_some o ≡ false → (p : Option A) → option_or o p ≡ p
  silent None h p = refl
  silent (Some v) h p = cc h

  spoken : (o : Option A) → is_some o ≡ true → (p : Option A) → option_or o p ≡ o
  spoken None h p = cc h
  spoken (Some v) h p = refl

  -- of options of which one at most is of the kind, the first says what this one does
  the_one : (os : List CanonOption) (o : CanonOption) → length (filter kind os) ≤ 1 → Contains os o → kind o ≡ true → first_in said os ≡ said o
  the_one [] o few c h = absurd (none_in o c)
  the_one (x ∷ xs) o few c h = by (λ l i. the_one xs o l i h) (bool_of (kind x)) (in_tail x xs o c)
    where
      by : (length (filter kind xs) ≤ 1 → Contains xs o → first_in said xs ≡ said o)
          → (kind x ≡ true) ⊎ (kind x ≡ false) → (x ≡ o) ⊎ Contains xs o → first_in said (x ∷ xs) ≡ said o
      by more (inl k) (inl e) = spoken (said x) (sym (same x) ∙ k) (first_in said xs) ∙ ap said e
      by more (inl k) (inr i) = absurd (omega (arith, few, one_more kind x xs k, some_passes kind xs o i h))
      by more (inr k) (inl e) = cc (k, h, ap kind e)
      by more (inr k) (inr i) = silent (said x) (sym (same x) ∙ k) (first_in said xs) ∙ more (omega (arith, few, no_more kind x xs k)) i

once_few : (kind : CanonOption → Bool) (os : List CanonOption) → is_once kind os ≡ true → length (filter kind os) ≤ 1
once_few kind os h = at_most (length (filter kind os)) h
  where
    at_most : (n : ℕ) → nat_le n 1 ≡ true → n ≤ 1
    at_most n e = grind (arith, e)

encodings : IsKindOf is_encoding encoding_in
encodings option.Utf8 = refl
encodings option.Utf16 = refl
encodings option.Latin1Utf16 = refl
encodings (option.Memory i) = refl
encodings (option.Realloc f) = refl
encodings (option.PostReturn f) = refl

reallocs : IsKindOf is_realloc realloc_in
reallocs option.Utf8 = refl
reallocs option.Utf16 = refl
reallocs option.Latin1Utf16 = refl
reallocs (option.Memory i) = refl
reallocs (option.Realloc f) = refl
reallocs (option.PostReturn f) = refl

post_returns : IsKindOf is_post_return post_return_in
post_returns option.Utf8 = refl
post_returns option.Utf16 = refl
post_returns option.Latin1Utf16 = refl
post_returns (option.Memory i) = refl
post_returns (option.Realloc f) = refl
post_returns (option.PostReturn f) = refl

-- ---- what options write

in_utf8 : (os : List CanonOption) → (Contains os option.Utf16 → ⊥) → (Contains os option.Latin1Utf16 → ⊥) → encoding_of os ≡ encoding.Utf8
in_utf8 [] h k = refl
in_utf8 (option.Utf8 ∷ os) h k = refl
in_utf8 (option.Utf16 ∷ os) h k = absurd (h (in_head option.Utf16 os))
in_utf8 (option.Latin1Utf16 ∷ os) h k = absurd (k (in_head option.Latin1Utf16 os))
in_utf8 (option.Memory i ∷ os) h k = in_utf8 os (λ c. h (more_in (option.Memory i) os option.Utf16 c)) (λ c. k (more_in (option.Memory i) os option.Latin1Utf16 c))
in_utf8 (option.Realloc f ∷ os) h k = in_utf8 os (λ c. h (more_in (option.Realloc f) os option.Utf16 c)) (λ c. k (more_in (option.Realloc f) os option.Latin1Utf16 c))
in_utf8 (option.PostReturn f ∷ os) h k = in_utf8 os (λ c. h (more_in (option.PostReturn f) os option.Utf16 c)) (λ c. k (more_in (option.PostReturn f) os option.Latin1Utf16 c))

no_realloc : (os : List CanonOption) → ((f : ℕ) → Contains os (option.Realloc f) → ⊥) → first_in realloc_in os ≡ None
no_realloc [] h = refl
no_realloc (option.Utf8 ∷ os) h = no_realloc os (λ f c. h f (more_in option.Utf8 os (option.Realloc f) c))
no_realloc (option.Utf16 ∷ os) h = no_realloc os (λ f c. h f (more_in option.Utf16 os (option.Realloc f) c))
no_realloc (option.Latin1Utf16 ∷ os) h = no_realloc os (λ f c. h f (more_in option.Latin1Utf16 os (option.Realloc f) c))
no_realloc (option.Memory i ∷ os) h = no_realloc os (λ f c. h f (more_in (option.Memory i) os (option.Realloc f) c))
no_realloc (option.Realloc g ∷ os) h = absurd (h g (in_head (option.Realloc g) os))
no_realloc (option.PostReturn g ∷ os) h = no_realloc os (λ f c. h f (more_in (option.PostReturn g) os (option.Realloc f) c))

no_post_return : (os : List CanonOption) → ((f : ℕ) → Contains os (option.PostReturn f) → ⊥) → first_in post_return_in os ≡ None
no_post_return [] h = refl
no_post_return (option.Utf8 ∷ os) h = no_post_return os (λ f c. h f (more_in option.Utf8 os (option.PostReturn f) c))
no_post_return (option.Utf16 ∷ os) h = no_post_return os (λ f c. h f (more_in option.Utf16 os (option.PostReturn f) c))
no_post_return (option.Latin1Utf16 ∷ os) h = no_post_return os (λ f c. h f (more_in option.Latin1Utf16 os (option.PostReturn f) c))
no_post_return (option.Memory i ∷ os) h = no_post_return os (λ f c. h f (more_in (option.Memory i) os (option.PostReturn f) c))
no_post_return (option.Realloc g ∷ os) h = no_post_return os (λ f c. h f (more_in (option.Realloc g) os (option.PostReturn f) c))
no_post_return (option.PostReturn g ∷ os) h = absurd (h g (in_head (option.PostReturn g) os))

module _ (os : List CanonOption) (once : are_once os ≡ true) where
  memories_once : ((is_once is_encoding os && is_once is_memory os) && is_once is_realloc os) ≡ true
  memories_once = both_left ((is_once is_encoding os && is_once is_memory os) && is_once is_realloc os) (is_once is_post_return os) once

  encodings_once : is_once is_encoding os ≡ true
  encodings_once = both_left (is_once is_encoding os) (is_once is_memory os) (both_left (is_once is_encoding os && is_once is_memory os) (is_once is_realloc os) memories_once)

  reallocs_once : is_once is_realloc os ≡ true
  reallocs_once = both_right (is_once is_encoding os && is_once is_memory os) (is_once is_realloc os) memories_once

  post_returns_once : is_once is_post_return os ≡ true
  post_returns_once = both_right ((is_once is_encoding os && is_once is_memory os) && is_once is_realloc os) (is_once is_post_return os) once

  encoded : (o : CanonOption) → Contains os o → is_encoding o ≡ true → first_in encoding_in os ≡ encoding_in o
  encoded o c h = the_one is_encoding encoding_in encodings os o (once_few is_encoding os encodings_once) c h

  writes_encoding : WritesEncoding os (encoding_of os)
  writes_encoding = record {
    utf8 = λ c. ap (λ o. unwrap_or o encoding.Utf8) (encoded option.Utf8 c refl);
    utf16 = λ c. ap (λ o. unwrap_or o encoding.Utf8) (encoded option.Utf16 c refl);
    latin1_utf16 = λ c. ap (λ o. unwrap_or o encoding.Utf8) (encoded option.Latin1Utf16 c refl);
    none = in_utf8 os;
  }

  pub writes_side : WritesSide os (side_of os)
  writes_side = record {
    encoding = writes_encoding;
    realloc = record {
      written = λ f c. the_one is_realloc realloc_in reallocs os (option.Realloc f) (once_few is_realloc os reallocs_once) c refl;
      none = no_realloc os;
    };
  }

  pub writes_post_return : WritesFunc option.PostReturn os (first_in post_return_in os)
  writes_post_return = record {
    written = λ f c. the_one is_post_return post_return_in post_returns os (option.PostReturn f) (once_few is_post_return os post_returns_once) c refl;
    none = no_post_return os;
  }

-- ---- options of valid definitions

options_once : (s : Spaces) (os : List CanonOption) → options_broken s os ≡ [] → are_once os ≡ true
options_once s os h = kept (are_once os) reason.OptionTwice (nil_rest (flat_map (option_broken s) os) (unless (are_once os) reason.OptionTwice) h)

abbrev IsLiftOnce : FuncDef → Type 0
IsLiftOnce (lifted f ty os) = are_once os ≡ true
IsLiftOnce (imported import item ty) = Unit {0}

abbrev IsLowerOnce : CoreFuncDef → Type 0
IsLowerOnce (guest e) = Unit {0}
IsLowerOnce (lowered import item ty os) = are_once os ≡ true
IsLowerOnce (making n) = Unit {0}
IsLowerOnce (dropping n) = Unit {0}
IsLowerOnce (reading n) = Unit {0}

module _ (items : List Item) (valid : IsValidFrom empty_spaces items) where
  pub lift_once : (f : FuncDef) → IsAdded items f → IsLiftOnce f
  lift_once _ (by_lift s f os i ty at e) =
      let func = guest_broken s.core_funcs f in
      let index = type_index_broken s (has_sort sort.Func) i in
      let none : ((guest_broken s.core_funcs f ++ type_index_broken s (has_sort sort.Func) i) ++ options_broken s os) ++ if_found (lift_type_broken os) (func_ty_at s i) ≡ [] =
      item_breaks_nothing items s (canon_item (lift f os i)) valid at in
      options_once s os (nil_rest (func ++ index) (options_broken s os) (nil_front ((func ++ index) ++ options_broken s os) (if_found (lift_type_broken os) (func_ty_at s i)) none))
  lift_once _ (by_import s i ty at e) = tt {0}
  lift_once _ (by_item s i t n x f at e g d) = tt {0}

  pub lower_once : (f : CoreFuncDef) → IsCoreAdded items f → IsLowerOnce f
  lower_once _ (of_guest e) = tt {0}
  lower_once _ (by_lower s f os import item ty at e) =
      let func = found (lowered_broken os) (slice_get s.funcs f) in
      let none : (found (lowered_broken os) (slice_get s.funcs f) ++ options_broken s os) ++ no_post_return_broken os ≡ [] =
      item_breaks_nothing items s (canon_item (lower f os)) valid at in
      options_once s os (nil_rest func (options_broken s os) (nil_front (func ++ options_broken s os) (no_post_return_broken os) none))
  lower_once _ (by_new s i n at e) = tt {0}
  lower_once _ (by_drop s i n at e) = tt {0}
  lower_once _ (by_rep s i n at e) = tt {0}

-- ---- components of a set

nothing_valid : IsValid []
nothing_valid [] x rest e = cc e
nothing_valid (y ∷ ys) x rest e = cc e

valid_at : (components : List (List SectionTree)) (c : ℕ) → AllByRecursion IsValid components → IsValid (sections_at components c)
valid_at [] c h = nothing_valid
valid_at (x ∷ xs) zero h = h.0
valid_at (x ∷ xs) (suc c) h = valid_at xs c h.1

-- what is at an index of a component of a set
at_index : {A : Type 0} (space : Spaces → List A) → space (spaces_of []) ≡ [] → (components : List (List SectionTree)) (c i : ℕ)
    → option_and_then (λ s. slice_get (space s) i) (slice_get (map spaces_of components) c) ≡ slice_get (space (spaces_of (sections_at components c))) i
at_index space none [] c i = sym (ap (λ l. slice_get l i) none)
at_index space none (x ∷ xs) zero i = refl
at_index space none (x ∷ xs) (suc c) i = at_index space none xs c i

some_of : {A : Type 0} (o : Option A) → is_some o ≡ true → (x : A) × (o ≡ Some x)
some_of None h = cc h
some_of (Some x) h = (x, refl)

module _ (components : List (List SectionTree)) (sees : Sees) (valid : AllByRecursion IsValid components)
    (added : (sections : List SectionTree) → OfFunctions (IsAdded (all_items sections)) (IsCoreAdded (all_items sections)) (spaces_of sections))
    (whole : (sections : List SectionTree) → IsValid sections → OfFunctions (IsLiftWhole (spaces_of sections)) (IsCoreWhole (spaces_of sections)) (spaces_of sections))
    (as_defined : (sections : List SectionTree) (s : Spaces) (d : Option ℕ) → IsItemAt (all_items sections) s (type_item (resource_def d))
    → slice_get (spaces_of sections).resources (next_resource s) ≡ Some (defined d))
    (lead : (set : LinkSet) → LeadEarlier (links_of set))
    (one : (set : List Spaces) (links : Links) → LeadEarlier links → AreOrigins set links (origin_of set links))
    (itself : (set : List Spaces) (links : Links) (table : Table) → AreOrigins set links table → (r : ResourceId) (d : Option ℕ)
    → definition_of set r ≡ Some (defined d) → table r ≡ Some r)
    (lifts : (components : List (List SectionTree)) (sees : Sees) (c import : ℕ) (item : Option ℕ) (t : Target)
    → targets_of (map spaces_of components) (links_of (seen_by sees (map spaces_of components))) c import item ≡ Some t
    → IsAdded (all_items (unwrap_or (slice_get components t.component) [])) (lifted t.core_func t.ty t.options))
  where
    abbrev set : LinkSet
    set = seen_by sees (map spaces_of components)

    abbrev core_funcs_at : ℕ → List CoreFuncDef
    core_funcs_at c = (spaces_of (sections_at components c)).core_funcs

    defined_at : (c n : ℕ) → definition_of set.spaces (resource_of c n) ≡ slice_get (spaces_of (sections_at components c)).resources n
    defined_at c n = at_index (λ (s : Spaces). s.resources) refl components c n

    core_def_at : (c f : ℕ) → core_def_in set c f ≡ slice_get (core_funcs_at c) f
    core_def_at c f = at_index (λ (s : Spaces). s.core_funcs) refl components c f

    added_at : (c f : ℕ) (d : CoreFuncDef) → slice_get (core_funcs_at c) f ≡ Some d → IsCoreAdded (items_at components c) d
    added_at c f d at = got_at (IsCoreAdded (items_at components c)) (core_funcs_at c) f d (added (sections_at components c)).core_funcs at

    whole_at : (c f : ℕ) (d : CoreFuncDef) → slice_get (core_funcs_at c) f ≡ Some d → IsCoreWhole (spaces_of (sections_at components c)) d
    whole_at c f d at =
        got_at (IsCoreWhole (spaces_of (sections_at components c))) (core_funcs_at c) f d (whole (sections_at components c) (valid_at components c valid)).core_funcs at

    own_resource : (c n : ℕ) (d : Option ℕ) → slice_get (spaces_of (sections_at components c)).resources n ≡ Some (defined d) → origin_in set c n ≡ Some (resource_of c n)
    own_resource c n d at = itself set.spaces (links_of set) (origin_of set.spaces (links_of set)) (one set.spaces (links_of set) (lead set)) (resource_of c n) d (defined_at c n ∙ at)

    -- what a lower writes
    link_written : (c import : ℕ) (item : Option ℕ) (os : List CanonOption) (t : Target) → are_once os ≡ true
        → targets_of set.spaces (links_of set) c import item ≡ Some t → IsLinkWritten components sees c import item os (link_to set os t)
    link_written c import item os t once to =
        let lift = lifts components sees c import item t to in
        let lift_is : are_once t.options ≡ true =
        lift_once (items_at components t.component) (valid_at components t.component valid) (lifted t.core_func t.ty t.options) lift in
        record {
          caller = writes_side os once;
          target = t;
          reached = to;
          lift = lift;
          instance = refl;
          func = refl;
          type = refl;
          callee = writes_side t.options lift_is;
          post_return = writes_post_return t.options lift_is;
        }

    -- what a drop writes
    drop_written : (c n : ℕ) (r : ResourceId) → origin_in set c n ≡ Some r → IsDropWritten components sees c n r (destructor_of set r)
    drop_written c n r at = record {
      origin = at;
      destructor = λ s d item number.
          let here : definition_of set.spaces r ≡ Some (defined d) =
          defined_at r.component r.number
          ∙ ap (λ k. slice_get (spaces_of (sections_at components r.component)).resources k) (sym number)
          ∙ as_defined (sections_at components r.component) s d item in
          ap (option_and_then destructor_in) here;
    }

    is_written : (c f : ℕ) (d : CoreFuncDef) → slice_get (core_funcs_at c) f ≡ Some d → IsCoreWhole (spaces_of (sections_at components c)) d → IsLowerOnce d
        → (x : CoreFunc) → core_func_of set c d ≡ Some x → IsCoreFuncWritten components sees c d x
    is_written c f (guest e) at h once x is = subst (IsCoreFuncWritten components sees c (guest e)) (some_in is) tt
    is_written c f (lowered import item ty os) at h once x is =
        let t = mapped (λ t. plan.lowered (link_to set os t)) (targets_of set.spaces (links_of set) c import item) x is in
        subst (IsCoreFuncWritten components sees c (lowered import item ty os)) t.2 (link_written c import item os t.0 once t.1)
    is_written c f (making n) at h once x is =
        let r = mapped plan.makes (origin_in set c n) x is in
        subst (IsCoreFuncWritten components sees c (making n)) r.2 (some_in (sym r.1 ∙ own_resource c n h.0 h.1))
    is_written c f (dropping n) at h once x is =
        let r = mapped (λ r. plan.drops r (destructor_of set r)) (origin_in set c n) x is in
        subst (IsCoreFuncWritten components sees c (dropping n)) r.2 (drop_written c n r.0 r.1)
    is_written c f (reading n) at h once x is =
        let r = mapped plan.represents (origin_in set c n) x is in
        subst (IsCoreFuncWritten components sees c (reading n)) r.2 (some_in (sym r.1 ∙ own_resource c n h.0 h.1))

    pub written : (p : Plan) → IsPlanOf set p → IsPlanWritten components sees p
    written p k = record {
      core_funcs = λ c f d at.
          let x = some_of (core_func_of set c d) (k.each c f d (core_def_at c f ∙ at)) in
          let add = added_at c f d at in
          record {
            added = add;
            func = x.0;
            there = k.core_funcs c f ∙ ap (option_and_then (core_func_of set c)) (core_def_at c f ∙ at) ∙ x.1;
            written = is_written c f d at (whole_at c f d at) (lower_once (items_at components c) (valid_at components c valid) d add) x.0 x.1;
          };
      no_other = λ c f at. k.core_funcs c f ∙ ap (option_and_then (core_func_of set c)) (core_def_at c f ∙ at);
    }
