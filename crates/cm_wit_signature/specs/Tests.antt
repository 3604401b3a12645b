-- Whether names lead to types and resources, as tests over keys of which those of resources are
-- marked.
use Rattle.std.specs.Prelude.{◌≡◌, ℕ, Bool, true, false, ◌&&◌, List, Option, Some, None, is_some}
use Rattle.std.specs.Prelude.{slice_get, slice_index_or, [], ◌∷◌, ◌+◌}
use Rattle.std.specs.List.{list_all}
use Rattle.cm_types_arena.specs.declared.names.Front.{Front}
use Rattle.cm_types_arena.specs.declared.names.Front.TheVariants as front
use Rattle.cm_names.specs.Keys.{Key, first_key}
use Rattle.cm_wit_reading.specs.Types.{Ty, Tys, primitive, named, borrow, list, fixed_list, option}
use Rattle.cm_wit_reading.specs.Types.{tuple, plain_result, ok_result, error_result, result}
use Rattle.cm_wit_reading.specs.Types.{no_types, types}
use Rattle.cm_wit_reading.specs.Signatures.{Typed, Func}
use Rattle.cm_wit_reading.specs.Trees.{ResourceFunc, method, static, constructor, WorldItem}
use Rattle.cm_wit_reading.specs.Trees.{WorldExtern, interface_at, named_func, imports, exports}
use Rattle.cm_wit_worlds.specs.Interfaces.{PlacedInterface}
use Rattle.cm_wit_tables.specs.Worlds.{Instance}
use Rattle.cm_wit_signature.specs.Members.{Member, used, declared, of_resource, function}
use Rattle.cm_wit_signature.specs.Members.{members}
use Rattle.cm_wit_signature.specs.declared.members.Member as code
use Rattle.cm_wit_signature.specs.declared.members.Member.TheVariants as member

-- whether there is a place, and it is marked
abbrev pub is_marked_place : List Bool → Option ℕ → Bool
is_marked_place marks None = false
is_marked_place marks (Some k) = slice_index_or marks k false

-- whether a name of the l-th list leads to a place, and to a marked one
abbrev pub is_led : List Key → ℕ → List ℕ → Bool
is_led keys l n = is_some (first_key keys l n)

abbrev pub is_resource_led : List Key → List Bool → ℕ → List ℕ → Bool
is_resource_led keys marks l n = is_marked_place marks (first_key keys l n)

-- whether the name of a front's resource leads to a marked place, if the front is of a resource
abbrev pub front_led : List Key → List Bool → ℕ → Front → Bool
front_led keys marks l front.Plain = false
front_led keys marks l (front.Method r) = is_resource_led keys marks l r
front_led keys marks l (front.Static r) = is_resource_led keys marks l r
front_led keys marks l (front.Constructor r) = is_resource_led keys marks l r
front_led keys marks l (front.Interface p) = false

abbrev mutual
  -- whether each name in a type text leads to a place, and that of a borrow to a marked one
  pub type_led : List Key → List Bool → ℕ → Ty → Bool
  type_led keys marks l (primitive p) = true
  type_led keys marks l (named n) = is_led keys l n
  type_led keys marks l (borrow n) = is_led keys l n && is_resource_led keys marks l n
  type_led keys marks l (list t) = type_led keys marks l t
  type_led keys marks l (fixed_list t n) = type_led keys marks l t
  type_led keys marks l (option t) = type_led keys marks l t
  type_led keys marks l (tuple ts) = types_led keys marks l ts
  type_led keys marks l plain_result = true
  type_led keys marks l (ok_result t) = type_led keys marks l t
  type_led keys marks l (error_result t) = type_led keys marks l t
  type_led keys marks l (result t u) = type_led keys marks l t && type_led keys marks l u

  pub types_led : List Key → List Bool → ℕ → Tys → Bool
  types_led keys marks l no_types = true
  types_led keys marks l (types t ts) = type_led keys marks l t && types_led keys marks l ts

abbrev pub params_led : List Key → List Bool → ℕ → List Typed → Bool
params_led keys marks l ps = list_all (λ p. type_led keys marks l p.1) ps

abbrev pub payload_led : List Key → List Bool → ℕ → Option Ty → Bool
payload_led keys marks l None = true
payload_led keys marks l (Some t) = type_led keys marks l t

abbrev pub func_led : List Key → List Bool → ℕ → Func → Bool
func_led keys marks l f = params_led keys marks l f.params && payload_led keys marks l f.result

abbrev pub resource_func_led : List Key → List Bool → ℕ → ResourceFunc → Bool
resource_func_led keys marks l (method n f) = func_led keys marks l f
resource_func_led keys marks l (static n f) = func_led keys marks l f
resource_func_led keys marks l (constructor ps) = params_led keys marks l ps

-- whether each name in a member leads to a place, and that of a borrow to a marked one
abbrev pub member_led : List Key → List Bool → ℕ → Member → Bool
member_led keys marks l (used n) = is_led keys l n
member_led keys marks l (declared n) = is_led keys l n
member_led keys marks l (of_resource r f) =
    is_resource_led keys marks l r && resource_func_led keys marks l f
member_led keys marks l (function n f) = func_led keys marks l f

-- A function of a resource has a number at which these say whether its resource's name leads to a
-- marked place.
abbrev pub HasResourceNumber : List Key → List Bool → ℕ → List Bool → code.Member → Type 0
HasResourceNumber keys marks l rs (member.Used name) = Unit {0}
HasResourceNumber keys marks l rs (member.Declared name) = Unit {0}
HasResourceNumber keys marks l rs (member.OfResource r f k) =
    slice_get rs k ≡ Some (is_resource_led keys marks l r.now)
HasResourceNumber keys marks l rs (member.Function name f) = Unit {0}

-- whether each name in the members of these instances does, the first of which has the l-th list
abbrev pub interface_led : List Key → List Bool → ℕ → Option PlacedInterface → Bool
interface_led keys marks l None = true
interface_led keys marks l (Some i) = list_all (member_led keys marks l) (members i.interface)

abbrev pub instances_led : List PlacedInterface → List Key → List Bool → ℕ → List Instance → Bool
instances_led all keys marks l [] = true
instances_led all keys marks l (x ∷ xs) =
    interface_led keys marks l (slice_get all x.interface)
    && instances_led all keys marks (l + 1) xs

-- whether each name in a function of the world itself does, if an item has one
abbrev pub extern_led : List Key → List Bool → ℕ → WorldExtern → Bool
extern_led keys marks l (interface_at path) = true
extern_led keys marks l (named_func n f) = func_led keys marks l f

abbrev pub item_led : List Key → List Bool → ℕ → WorldItem → Bool
item_led keys marks l (imports e) = extern_led keys marks l e
item_led keys marks l (exports e) = extern_led keys marks l e
