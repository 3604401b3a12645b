-- One table alone has the origins.
use Rattle.std.proofs.Common.{◌≡◌, ◌∙◌, ℕ, zero, suc, ◌<◌, ◌≤◌, true, List, Option, Some, None, is_some, refl, sym, ap, subst, arith, option_and_then, slice_get}
use Rattle.std.specs.Prelude.{unwrap_or}
use Rattle.std.specs.Option.{option_map}
use Rattle.cm_types.specs.declared.resource.ResourceId.{ResourceId}
use Rattle.cm_validate_model.specs.Definitions.{ResourceDef, brought, defined}
use Rattle.cm_validate_model.specs.Spaces.{Spaces}
use Rattle.cm_match_model.specs.declared.component.Link.{Link}
use Rattle.cm_match_model.specs.Origins.{AreOrigins, LeadEarlier, Links, Table, definition_of, exported_resource, item_name, origin_by, origin_of, origin_within, resource_at, resource_of, served}
use Rattle.cm_lemmas.proofs.Options.{some_in, stepped, still_some}

mapped : {A B : Type 0} (o : Option A) (f : A → B) (y : B) → option_map f o ≡ Some y → (x : A) × (f x ≡ y)
mapped None f y h = cc h
mapped (Some x) f y h = (x, ap (λ o. unwrap_or o (f x)) h)

-- an export's resource is of the component that exports it
exported_there : (set : List Spaces) (l : Link) (name : List ℕ) (q : ResourceId) → resource_at set l name ≡ Some q → q.component ≡ l.component
exported_there set l name q h =
    let space = stepped (slice_get set l.component) (λ s. option_map (resource_of l.component) (exported_resource s l.export name)) q h in
    let number = mapped (exported_resource space.0 l.export name) (resource_of l.component) q space.2 in
    sym (ap (λ (r : ResourceId). r.component) number.1)

linked_earlier : (set : List Spaces) (links : Links) (c i : ℕ) (name : List ℕ) (q : ResourceId) → LeadEarlier links → option_and_then (λ l. resource_at set l name) (links c i) ≡ Some q → q.component < c
linked_earlier set links c i name q early h =
    let link = stepped (links c i) (λ l. resource_at set l name) q h in
    subst (λ (n : ℕ). n < c) (sym (exported_there set link.0 name q link.2)) (early c i link.0 link.1)

-- what serves a resource is of an earlier component
pub served_earlier : (set : List Spaces) (links : Links) (c i k : ℕ) (q : ResourceId) → LeadEarlier links → served set links c i k ≡ Some q → q.component < c
served_earlier set links c i k q early h =
    let name = stepped (option_and_then (λ s. item_name s i k) (slice_get set c)) (λ n. option_and_then (λ l. resource_at set l n) (links c i)) q h in
    linked_earlier set links c i name.0 q early name.2

-- tables that agree on what serves a resource agree on what it is
same_origin : (set : List Spaces) (links : Links) (s t : Table) (r : ResourceId) (d : ResourceDef) → LeadEarlier links
    → ((q : ResourceId) → q.component < r.component → s q ≡ t q) → origin_by set links s r d ≡ origin_by set links t r d
same_origin set links s t r (defined x) early same = refl
same_origin set links s t r (brought i k) early same = by_served (served set links r.component i k) refl
  where
    by_served : (o : Option ResourceId) → served set links r.component i k ≡ o → unwrap_or (option_and_then s (served set links r.component i k)) r ≡ unwrap_or (option_and_then t (served set links r.component i k)) r
    by_served None h = rw h refl
    by_served (Some q) h = rw h (ap (λ o. unwrap_or o r) (same q (served_earlier set links r.component i k q early h)))

mapped_same : {A B : Type 0} (f g : A → B) (o : Option A) → ((x : A) → f x ≡ g x) → option_map f o ≡ option_map g o
mapped_same f g None h = refl
mapped_same f g (Some x) h = ap Some (h x)

-- by the number of the component
unique_below : (set : List Spaces) (links : Links) (s t : Table) → LeadEarlier links → AreOrigins set links s → AreOrigins set links t
    → (n : ℕ) (r : ResourceId) → r.component < n → s r ≡ t r
unique_below set links s t early a b zero r h = absurd (omega (arith, h))
unique_below set links s t early a b (suc n) r h =
    a r
    ∙ mapped_same (origin_by set links s r) (origin_by set links t r) (definition_of set r) (λ d. same_origin set links s t r d early (λ q l. unique_below set links s t early a b n q (omega (arith, l, h))))
    ∙ sym (b r)

pub unique : (set : List Spaces) (links : Links) (s t : Table) → LeadEarlier links → AreOrigins set links s → AreOrigins set links t → (r : ResourceId) → s r ≡ t r
unique set links s t early a b r = unique_below set links s t early a b (suc r.component) r (omega arith)

-- more components do not change what a resource is
enough : (set : List Spaces) (links : Links) → LeadEarlier links → (m n : ℕ) (r : ResourceId) → r.component < m → r.component < n → origin_within m set links r ≡ origin_within n set links r
enough set links early zero n r h k = absurd (omega (arith, h))
enough set links early (suc m) zero r h k = absurd (omega (arith, k))
enough set links early (suc m) (suc n) r h k =
    mapped_same (origin_by set links (origin_within m set links) r) (origin_by set links (origin_within n set links) r) (definition_of set r)
    (λ d. same_origin set links (origin_within m set links) (origin_within n set links) r d early (λ q l. enough set links early m n q (omega (arith, l, h)) (omega (arith, l, k))))

pub exists : (set : List Spaces) (links : Links) → LeadEarlier links → AreOrigins set links (origin_of set links)
exists set links early r =
    mapped_same (origin_by set links (origin_within r.component set links) r) (origin_by set links (origin_of set links) r) (definition_of set r)
    (λ d. same_origin set links (origin_within r.component set links) (origin_of set links) r d early (λ q l. enough set links early r.component (suc q.component) q l (omega arith)))

pub defined_itself : (set : List Spaces) (links : Links) (table : Table) → AreOrigins set links table → (r : ResourceId) (x : Option ℕ) → definition_of set r ≡ Some (defined x) → table r ≡ Some r
defined_itself set links table a r x h = a r ∙ ap (option_map (origin_by set links table r)) h

pub brought_follows : (set : List Spaces) (links : Links) (table : Table) → AreOrigins set links table → (r provided origin : ResourceId) (i k : ℕ)
    → definition_of set r ≡ Some (brought i k) → served set links r.component i k ≡ Some provided → table provided ≡ Some origin → table r ≡ Some origin
brought_follows set links table a r provided origin i k h s t =
    a r ∙ ap (option_map (origin_by set links table r)) h ∙ ap (λ o. Some (unwrap_or (option_and_then table o) r)) s ∙ ap (λ o. Some (unwrap_or o r)) t

-- ---- origins are of earlier components

mapped_by : {A B : Type 0} (f : A → B) (o : Option A) (y : B) → option_map f o ≡ Some y → (x : A) × (f x ≡ y)
mapped_by f None y h = cc h
mapped_by f (Some x) y h = (x, some_in h)

-- a table leads to no later component
abbrev LeadsBack : Table → Type 0
LeadsBack table = (q z : ResourceId) → table q ≡ Some z → z.component ≤ q.component

by_origin : (r q : ResourceId) (o : Option ResourceId) → ((z : ResourceId) → o ≡ Some z → z.component ≤ q.component) → q.component < r.component → (unwrap_or o r).component ≤ r.component
by_origin r q None back lt = omega arith
by_origin r q (Some z) back lt = omega (arith, back z refl, lt)

by_served : (table : Table) (r : ResourceId) (o : Option ResourceId) → LeadsBack table → ((q : ResourceId) → o ≡ Some q → q.component < r.component) → (unwrap_or (option_and_then table o) r).component ≤ r.component
by_served table r None back lt = omega arith
by_served table r (Some q) back lt = by_origin r q (table q) (back q) (lt q refl)

by_definition : (set : List Spaces) (links : Links) → LeadEarlier links → (table : Table) (r : ResourceId) (d : ResourceDef) → LeadsBack table → (origin_by set links table r d).component ≤ r.component
by_definition set links early table r (defined x) back = omega arith
by_definition set links early table r (brought i k) back = by_served table r (served set links r.component i k) back (λ q e. served_earlier set links r.component i k q early e)

not_later : (set : List Spaces) (links : Links) → LeadEarlier links → (n : ℕ) → LeadsBack (origin_within n set links)
not_later set links early zero r origin h = cc h
not_later set links early (suc n) r origin h =
    let d = mapped_by (origin_by set links (origin_within n set links) r) (definition_of set r) origin h in
    subst (λ (q : ResourceId). q.component ≤ r.component) d.1 (by_definition set links early (origin_within n set links) r d.0 (not_later set links early n))

pub earlier_origin : (set : List Spaces) (links : Links) → LeadEarlier links → (r origin : ResourceId) → origin_of set links r ≡ Some origin → origin.component ≤ r.component
earlier_origin set links early r origin h = not_later set links early (suc r.component) r origin h

pub origin_there : (set : List Spaces) (links : Links) (r : ResourceId) → is_some (definition_of set r) ≡ true → is_some (origin_of set links r) ≡ true
origin_there set links r h = still_some (origin_by set links (origin_within r.component set links) r) (definition_of set r) h
