-- What serves an import: what is of the same type, once each resource is what it is in the end (how
-- components are linked is this project's own choice).
use Rattle.std.specs.Prelude.{◌≡◌, ⊤, ℕ, Bool, true, false, List, ◌++◌, ◌∷◌, Option}
use Rattle.std.specs.Prelude.{Some, None, unwrap_or}
use Rattle.std.specs.List.{AllByRecursion}
use Rattle.std.specs.Option.{option_and_then}
use Rattle.cm_types.specs.Types.{Ty, FuncTy}
use Rattle.cm_types.specs.Signatures.{ItemTy, NamedItem, func_item, equal_type, equal_resource}
use Rattle.cm_types.specs.Signatures.{fresh_resource, ExternTy}
use Rattle.cm_types.specs.Signatures as extern
use Rattle.cm_types_arena.specs.Replaced.{Standing, replaced, replaced_func}
use Rattle.cm_validate_model.specs.Definitions.{ExportDef, exported_func, exported_instance}
use Rattle.cm_validate_model.specs.Definitions.{NamedMember, func_type_of}
use Rattle.cm_validate_model.specs.Spaces.{item_of_member, member_named}
use Rattle.cm_match_model.specs.Origins.{origin_of, resource_of}
use Rattle.cm_match_model.specs.declared.fault.LinkReason.{LinkReason}
use Rattle.cm_match_model.specs.declared.fault.LinkReason.TheVariants as reason
use Rattle.cm_match_model.specs.Imports.{LinkSet, links_of}

-- what a resource of a component is in the end
abbrev pub standing : LinkSet → ℕ → Standing
standing set component r =
    unwrap_or (origin_of set.spaces (links_of set) (resource_of component r.number)) r

-- types of two components are the same
abbrev pub IsSameType : LinkSet → ℕ → Ty → ℕ → Ty → Type 0
IsSameType set c t d u = replaced (standing set c) t ≡ replaced (standing set d) u

abbrev pub IsSameFunc : LinkSet → ℕ → FuncTy → ℕ → FuncTy → Type 0
IsSameFunc set c f d g = replaced_func (standing set c) f ≡ replaced_func (standing set d) g

-- ---- items of instances

-- what a component wants under a name is served by what another has there: a function and a value
-- type by the same, a resource that the instance brings by any, and another one by itself
abbrev pub Serves : LinkSet → ℕ → ItemTy → ℕ → ItemTy → Type 0
Serves set c (func_item f) d (func_item g) = IsSameFunc set c f d g
Serves set c (equal_type t) d (equal_type u) = IsSameType set c t d u
Serves set c (fresh_resource r) d (equal_resource q) = ⊤
Serves set c (equal_resource r) d (equal_resource q) = standing set c r ≡ standing set d q
Serves set c _ d _ = ⊥

-- both are resources, of which the first has to be one that is known
abbrev pub are_known_resources : ItemTy → ItemTy → Bool
are_known_resources (equal_resource r) (equal_resource q) = true
are_known_resources _ _ = false

-- what an instance has under a name
abbrev pub item_under : List NamedMember → List ℕ → Option ItemTy
item_under members name =
    option_and_then (λ m. item_of_member m) (member_named members name)

-- a wanted item is served by what stands under its name; it does not matter what else there is
abbrev pub IsItemServed : LinkSet → ℕ → ℕ → List NamedMember → NamedItem → Type 0
IsItemServed set c d members i =
    (have : ItemTy) × (item_under members i.name ≡ Some have) × Serves set c i.desc d have

-- why what stands under a name does not serve
abbrev pub IsUnserved : LinkSet → ℕ → ItemTy → ℕ → Option ItemTy → LinkReason → Type 0
IsUnserved set c wanted d None reason.MissingExport = ⊤
IsUnserved set c wanted d (Some have) reason.DifferentType =
    (Serves set c wanted d have → ⊥) × (are_known_resources wanted have ≡ false)
IsUnserved set c wanted d (Some have) reason.DifferentResource =
    (Serves set c wanted d have → ⊥) × (are_known_resources wanted have ≡ true)
IsUnserved set c wanted d _ _ = ⊥

abbrev pub IsItemUnserved : LinkSet → ℕ → ℕ → List NamedMember → NamedItem → LinkReason
    → Type 0
IsItemUnserved set c d members i r =
    IsUnserved set c i.desc d (item_under members i.name) r

-- ---- the first of several

-- the first of these that is not so: all before it are
pub record IsFirst {A : Type 0} (is_so : A → Type 0) (xs : List A) (x : A) : Type 0 where
  pub front : List A
  pub rest : List A
  pub split : xs ≡ front ++ x ∷ rest
  pub before : AllByRecursion is_so front

-- ---- imports

-- what a component imports is served by what another exports: a function by the same one, and an
-- instance by one that serves each item
abbrev pub ServesExtern : LinkSet → ℕ → ExternTy → ℕ → ExportDef → Type 0
ServesExtern set c (extern.func f) d (exported_func g) = IsSameFunc set c f d (func_type_of g)
ServesExtern set c (extern.instance items) d (exported_instance members) =
    AllByRecursion (IsItemServed set c d members) items
ServesExtern set c _ d _ = ⊥

-- why it is not: it is of another sort or type, or the first item that is not served is not for
-- this reason
abbrev pub IsExternUnserved : LinkSet → ℕ → ExternTy → ℕ → ExportDef → LinkReason → Type 0
IsExternUnserved set c (extern.func f) d (exported_func g) r =
    (r ≡ reason.DifferentType) × (IsSameFunc set c f d (func_type_of g) → ⊥)
IsExternUnserved set c (extern.instance items) d (exported_instance members) r =
    (i : NamedItem) × IsFirst (IsItemServed set c d members) items i
    × IsItemUnserved set c d members i r
IsExternUnserved set c _ d _ r = r ≡ reason.DifferentType
