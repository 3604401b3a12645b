-- The fronts of the names of an interface's items (Explainer.md, "Import and Export Definitions").
use Rattle.std.specs.Prelude.{◌≡◌, ℕ, List, [], ◌∷◌, Option, Some, None, slice_get}
use Rattle.std.specs.List.{AllByRecursion}
use Rattle.std.specs.Option.{option_and_then}
use Rattle.cm_types.specs.declared.resource.ResourceId.{ResourceId}
use Rattle.cm_types_arena.specs.declared.names.Front.{Front}
use Rattle.cm_types_arena.specs.declared.names.Front.TheVariants as front
use Rattle.cm_wit_meanings.specs.Scopes.{Scope, as_resource}
use Rattle.cm_wit_reading.specs.Trees.{ResourceFunc, method, static, constructor}
use Rattle.cm_wit_reading.specs.Views.{resource_func_tree}
use Rattle.cm_wit_signature.specs.declared.members.Member.{Member}
use Rattle.cm_wit_signature.specs.declared.members.Member.TheVariants as member

-- the fronts of the names of a resource's functions
abbrev pub resource_fronts : List ℕ → List Front
resource_fronts r = front.Method r ∷ front.Static r ∷ front.Constructor r ∷ []

-- the front of the name of a function of a resource
abbrev pub func_front : List ℕ → ResourceFunc → Front
func_front r (method m f) = front.Method r
func_front r (static m f) = front.Static r
func_front r (constructor ps) = front.Constructor r

-- A function of a resource has the number of its name's front among these.
abbrev pub IsFronted : List Front → Member → Type 0
IsFronted fronts (member.Used name) = Unit {0}
IsFronted fronts (member.Declared name) = Unit {0}
IsFronted fronts (member.OfResource r f k) =
    slice_get fronts k ≡ Some (func_front r.now (resource_func_tree f.now))
IsFronted fronts (member.Function name f) = Unit {0}

-- The first of these fronts is for names that are labels alone, and each function of a resource has
-- the number of its own.
pub record AreFronted (fronts : List Front) (ms : List Member) : Type 0 where
  pub plain : slice_get fronts 0 ≡ Some front.Plain
  pub each : AllByRecursion (IsFronted fronts) ms

-- the resource of the functions whose names have a front, if its name stands for one
abbrev pub front_resource : Scope → Front → Option ResourceId
front_resource s front.Plain = None
front_resource s (front.Method r) = option_and_then as_resource (s r)
front_resource s (front.Static r) = option_and_then as_resource (s r)
front_resource s (front.Constructor r) = option_and_then as_resource (s r)
front_resource s (front.Interface p) = None

-- A function of a resource has its resource at the number of its name's front among these.
abbrev pub HasResource : Scope → List (Option ResourceId) → Member → Type 0
HasResource s resources (member.Used name) = Unit {0}
HasResource s resources (member.Declared name) = Unit {0}
HasResource s resources (member.OfResource r f k) =
    slice_get resources k ≡ Some (option_and_then as_resource (s r.now))
HasResource s resources (member.Function name f) = Unit {0}
