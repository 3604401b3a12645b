-- What serves a resource, and what it is then.
use Rattle.std.proofs.Common.{◌≡◌, ◌∙◌, ℕ, ◌<◌, true, false, List, Option, Some, None, refl, ap, arith, option_and_then, slice_get, is_some}
use Rattle.std.specs.Prelude.{unwrap_or}
use Rattle.std.specs.Option.{option_map}
use Rattle.cm_types.specs.declared.resource.ResourceId.{ResourceId}
use Rattle.cm_validate_model.specs.Definitions.{ResourceDef, brought, defined}
use Rattle.cm_validate_model.specs.Spaces.{Spaces}
use Rattle.cm_match_serving.specs.Components.{Told}
use Rattle.cm_match_model.specs.Origins.{AreOrigins, LeadEarlier, Links, Table, definition_of, exported_resource, item_name, origin_by, resource_at, resource_of, served}
use Rattle.cm_match_serving.specs.ToldSets.{Describes, linked_at, served_at, source_by}
use Rattle.cm_match_model.proofs.OriginLaws.{served_earlier}
use Rattle.cm_lemmas.proofs.Options.{is_none, some_mapped}

-- what serves a resource, by what it is
abbrev pub serving : List Spaces → Links → ResourceId → ResourceDef → Option ResourceId
serving set links r (defined x) = None
serving set links r (brought i k) = served set links r.component i k

abbrev pub served_by : List Spaces → Links → ResourceId → Option ResourceId
served_by set links r = option_and_then (serving set links r) (definition_of set r)

same_then : {A B : Type 0} (f g : A → Option B) (o : Option A) → ((x : A) → f x ≡ g x) → option_and_then f o ≡ option_and_then g o
same_then f g None h = refl
same_then f g (Some x) h = h x

map_then : {A B C : Type 0} (f : B → C) (g : A → Option B) (o : Option A) → option_map f (option_and_then g o) ≡ option_and_then (λ x. option_map f (g x)) o
map_then f g None = refl
map_then f g (Some x) = refl

linked_told : (told : Told) (set : List Spaces) (links : Links) → Describes told set links → (c i : ℕ) (name : List ℕ)
    → linked_at told c (i, name) ≡ option_and_then (λ l. resource_at set l name) (links c i)
linked_told told set links d c i name =
    ap (option_and_then (λ l. option_map (resource_of l.component) (told.member l name))) (d.linked c i)
    ∙ same_then (λ l. option_map (resource_of l.component) (told.member l name)) (λ l. resource_at set l name) (links c i)
    (λ l. ap (option_map (resource_of l.component)) (d.members l name) ∙ map_then (resource_of l.component) (λ s. exported_resource s l.export name) (slice_get set l.component))

named_told : (told : Told) (set : List Spaces) (links : Links) → Describes told set links → (c i : ℕ) (name : Option (List ℕ))
    → option_and_then (linked_at told c) (option_map (λ n. (i, n)) name) ≡ option_and_then (λ n. option_and_then (λ l. resource_at set l n) (links c i)) name
named_told told set links d c i None = refl
named_told told set links d c i (Some name) = linked_told told set links d c i name

defined_told : (told : Told) (set : List Spaces) (links : Links) → Describes told set links → (r : ResourceId) (o : Option ResourceDef)
    → option_and_then (λ source. option_and_then (linked_at told r.component) source) (option_map (source_by set r.component) o) ≡ option_and_then (serving set links r) o
defined_told told set links d r None = refl
defined_told told set links d r (Some (defined x)) = refl
defined_told told set links d r (Some (brought i k)) = named_told told set links d r.component i (option_and_then (λ s. item_name s i k) (slice_get set r.component))

pub served_told : (told : Told) (set : List Spaces) (links : Links) → Describes told set links → (r : ResourceId) → served_at told r ≡ served_by set links r
served_told told set links d r =
    ap (option_and_then (λ source. option_and_then (linked_at told r.component) source)) (d.sources r) ∙ defined_told told set links d r (definition_of set r)

pub exists_told : (told : Told) (set : List Spaces) (links : Links) → Describes told set links → (r : ResourceId) → is_some (told.source r) ≡ is_some (definition_of set r)
exists_told told set links d r = ap is_some (d.sources r) ∙ some_mapped (source_by set r.component) (definition_of set r)

-- ---- steps

earlier_by : (set : List Spaces) (links : Links) → LeadEarlier links → (r q : ResourceId) (o : Option ResourceDef) → option_and_then (serving set links r) o ≡ Some q → q.component < r.component
earlier_by set links early r q None h = cc h
earlier_by set links early r q (Some (defined x)) h = cc h
earlier_by set links early r q (Some (brought i k)) h = served_earlier set links r.component i k q early h

pub earlier : (set : List Spaces) (links : Links) → LeadEarlier links → (r q : ResourceId) → served_by set links r ≡ Some q → q.component < r.component
earlier set links early r q h = earlier_by set links early r q (definition_of set r) h

-- what a table tells of a resource that is there
present : {A B : Type 0} (f : A → B) (o : Option A) (d : B) → is_some o ≡ true → option_map f o ≡ Some (unwrap_or (option_map f o) d)
present f None d h = cc h
present f (Some x) d h = refl

follow_by : (set : List Spaces) (links : Links) (table : Table) (r q : ResourceId) (o : Option ResourceDef) (p : Option ResourceId) → option_and_then (serving set links r) o ≡ Some q → table q ≡ p → is_some p ≡ true
    → option_map (origin_by set links table r) o ≡ p
follow_by set links table r q None p h t s = cc h
follow_by set links table r q (Some (defined x)) p h t s = cc h
follow_by set links table r q (Some (brought i k)) None h t s = cc s
follow_by set links table r q (Some (brought i k)) (Some z) h t s = ap (λ o. Some (unwrap_or (option_and_then table o) r)) h ∙ ap (λ o. Some (unwrap_or o r)) t

some_table : (set : List Spaces) (links : Links) (table : Table) → AreOrigins set links table → (q : ResourceId) → is_some (table q) ≡ is_some (definition_of set q)
some_table set links table a q = ap is_some (a q) ∙ some_mapped (origin_by set links table q) (definition_of set q)

pub follow : (set : List Spaces) (links : Links) (table : Table) → AreOrigins set links table → (r q : ResourceId) → served_by set links r ≡ Some q → is_some (definition_of set q) ≡ true → table r ≡ table q
follow set links table a r q h s = a r ∙ follow_by set links table r q (definition_of set r) (table q) h refl (some_table set links table a q ∙ s)

stay_by : (set : List Spaces) (links : Links) (table : Table) (r : ResourceId) (o : Option ResourceDef) → option_and_then table (option_and_then (serving set links r) o) ≡ None → is_some o ≡ true → option_map (origin_by set links table r) o ≡ Some r
stay_by set links table r None h s = cc s
stay_by set links table r (Some (defined x)) h s = refl
stay_by set links table r (Some (brought i k)) h s = ap (λ o. Some (unwrap_or o r)) h

-- nothing that is there serves it
pub stay : (set : List Spaces) (links : Links) (table : Table) → AreOrigins set links table → (r : ResourceId) → option_and_then table (served_by set links r) ≡ None → is_some (definition_of set r) ≡ true → table r ≡ Some r
stay set links table a r h s = a r ∙ stay_by set links table r (definition_of set r) h s

pub absent : (set : List Spaces) (links : Links) (table : Table) → AreOrigins set links table → (r : ResourceId) → is_some (definition_of set r) ≡ false → table r ≡ None
absent set links table a r h = is_none (table r) (some_table set links table a r ∙ h)

none_there : {A : Type 0} (o : Option A) → ((x : A) → o ≡ Some x → ⊥) → o ≡ None
none_there None h = refl
none_there (Some x) h = absurd (h x refl)

-- what is of the first component is served by nothing
pub first : (set : List Spaces) (links : Links) → LeadEarlier links → (r : ResourceId) → r.component ≡ 0 → served_by set links r ≡ None
first set links early r h = none_there (served_by set links r) (λ q e. omega (arith, h, earlier set links early r q e))
