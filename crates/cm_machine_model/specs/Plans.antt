-- What holds of the core functions of each set that can be linked: of what `validate` and `link`
-- accept (Explainer.md, "Canonical Definitions"; Linking.md).
use Rattle.std.specs.Prelude.{◌≡◌, ◌≢◌, ℕ, ◌<◌, ◌≤◌, ⊤, true, false, List, [], ◌∷◌, length}
use Rattle.std.specs.Prelude.{Option, Some, None, is_some}
use Rattle.cm_types.specs.declared.resource.ResourceId.{ResourceId}
use Rattle.cm_types.specs.Spellable.{are_spellable}
use Rattle.cm_types.specs.Values.{Val, HasType}
use Rattle.cm_abi_model.specs.Receives.{leaves_in, HandleLeaf, owned_leaf, borrowed_leaf}
use Rattle.cm_abi_model.specs.Requests.{CanStore, call_parts, is_spilled, tuple_of}
use Rattle.cm_abi_model.specs.Views.{params, results}
use Rattle.cm_machine_model.specs.declared.limits.TheConstants.{MAX_INSTANCES}
use Rattle.cm_machine_model.specs.Plan.{Plan, CoreFunc, Link, guest, lowered, makes, drops}
use Rattle.cm_machine_model.specs.Plan.{represents, core_func_at, types_of}

-- a core function of the instance's own core module
abbrev pub IsGuest : Plan → ℕ → ℕ → Type 0
IsGuest plan i f = core_func_at plan i f ≡ Some guest

-- the same, where one is named
abbrev pub IsGuestIfAny : Plan → ℕ → Option ℕ → Type 0
IsGuestIfAny plan i None = ⊤
IsGuestIfAny plan i (Some f) = IsGuest plan i f

-- Where a value of these types has a part that its receiver is asked for, there is an allocator;
-- room for a result that goes by memory comes with the call.
abbrev pub HasAllocator : Link → Type 0
HasAllocator l =
    ((v : Val) → HasType (tuple_of (types_of l params)) v
    → call_parts params (types_of l params) v ≢ [] → is_some l.callee.realloc ≡ true)
    × ((v : Val) → HasType (tuple_of (types_of l results)) v
    → 1 < length (call_parts results (types_of l results) v)
    → is_some l.caller.realloc ≡ true)
    × ((v : Val) → HasType (tuple_of (types_of l results)) v
    → is_spilled results (types_of l results) ≡ false
    → call_parts results (types_of l results) v ≢ [] → is_some l.caller.realloc ≡ true)

-- no handle of a result is borrowed
abbrev pub NoneBorrowed : List HandleLeaf → Type 0
NoneBorrowed [] = ⊤
NoneBorrowed (owned_leaf h ∷ leaves) = NoneBorrowed leaves
NoneBorrowed (borrowed_leaf h ∷ leaves) = ⊥

-- A lowered function reaches an earlier instance, by types that a file can spell and whose values
-- both sides may store. What is called there are core functions of that instance's own, and the
-- allocators are those of their instances. A result borrows nothing.
pub record IsLink (plan : Plan) (instance : ℕ) (l : Link) : Type 0 where
  pub earlier : l.instance < instance
  pub params_spellable : are_spellable (types_of l params) ≡ true
  pub results_spellable : are_spellable (types_of l results) ≡ true
  pub params_stored : CanStore l.callee.encoding (types_of l params)
  pub results_stored : CanStore l.caller.encoding (types_of l results)
  pub body : IsGuest plan l.instance l.func
  pub callee_realloc : IsGuestIfAny plan l.instance l.callee.realloc
  pub caller_realloc : IsGuestIfAny plan instance l.caller.realloc
  pub post_return : IsGuestIfAny plan l.instance l.post_return
  pub allocators : HasAllocator l
  pub none_lent_back : (v : Val)
      → NoneBorrowed (leaves_in (tuple_of (types_of l results)) v)

-- A resource is of this instance or of an earlier one; a destructor is a core function of the one
-- that defines it.
pub record IsResourceOf (plan : Plan) (instance : ℕ) (r : ResourceId) (destructor : Option ℕ)
    : Type 0 where
  pub earlier : r.component ≤ instance
  pub runs : IsGuestIfAny plan r.component destructor

-- what holds of a core function of an instance; handles are made, and told, by the instance that
-- defines their resource alone
abbrev pub IsCoreFunc : Plan → ℕ → CoreFunc → Type 0
IsCoreFunc plan i guest = ⊤
IsCoreFunc plan i (lowered l) = IsLink plan i l
IsCoreFunc plan i (makes r) = r.component ≡ i
IsCoreFunc plan i (drops r d) = IsResourceOf plan i r d
IsCoreFunc plan i (represents r) = r.component ≡ i

-- one resource has one destructor, whoever drops it
abbrev pub OneDestructor : Plan → Type 0
OneDestructor plan = (i j f g : ℕ) (r : ResourceId) (d e : Option ℕ)
    → core_func_at plan i f ≡ Some (drops r d) → core_func_at plan j g ≡ Some (drops r e) → d ≡ e

-- These are the core functions of a set that can be linked.
pub record IsPlan (plan : Plan) : Type 0 where
  pub few : length plan ≤ MAX_INSTANCES
  pub core_funcs : (i f : ℕ) (c : CoreFunc) → core_func_at plan i f ≡ Some c → IsCoreFunc plan i c
  pub one_destructor : OneDestructor plan
