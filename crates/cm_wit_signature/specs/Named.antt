-- Whether the names in what a world reaches lead to types (WIT.md, "Item: `ty`" and "Item:
-- `func`"; which fault comes of which is this project's own choice).
use Rattle.std.specs.Prelude.{◌≡◌, ◌↔◌, ℕ, List, Some, MatchOption, length}
use Rattle.std.specs.Prelude.{map, false}
use Rattle.std.specs.Prelude.{slice_get}
use Rattle.std.specs.List.{AllByRecursion, Contains, flat_map}
use Rattle.cm_wit_reading.specs.Signatures.{Func, Typed}
use Rattle.cm_wit_reading.specs.Trees.{File, ResourceFunc, method, static, constructor}
use Rattle.cm_wit_worlds.specs.Interfaces.{PlacedWorld, PlacedInterface, interfaces}
use Rattle.cm_wit_graph.specs.Reach.{IsReached}
use Rattle.cm_wit_tables.specs.Declarations.{Declaration, names_in, names_in_payload}
use Rattle.cm_wit_tables.specs.TypeFaults.{LeadsToType, LeadsToResource, AllHaveTypes}
use Rattle.cm_wit_tables.specs.TypeFaults.{borrowed_in, borrowed_in_payload}
use Rattle.cm_wit_tables.specs.Worlds.{Instance, instances, declarations}
use Rattle.cm_wit_worlds.specs.Worlds.{rows_of, named, HasInterfaceCycle, AreWorldExterns}
use Rattle.cm_wit_signature.specs.Members.{Member, used, declared, of_resource, function}
use Rattle.cm_wit_signature.specs.Members.{members}
use Rattle.cm_wit_signature.specs.Signatures.{item_func}

-- ---- functions

-- the names in parameters, and those of borrowed resources
abbrev pub names_in_params : List Typed → List (List ℕ)
names_in_params ps = flat_map (λ p. names_in p.1) ps

abbrev pub borrowed_in_params : List Typed → List (List ℕ)
borrowed_in_params ps = flat_map (λ p. borrowed_in p.1) ps

-- Each of these names of the l-th list leads to a type, and each of those to a resource.
abbrev pub Lead : List Declaration → ℕ → List (List ℕ) → List (List ℕ) → Type 0
Lead ds l names borrowed = AllByRecursion (λ n. LeadsToType ds (l, n)) names
    × AllByRecursion (λ n. LeadsToResource ds (l, n)) borrowed

abbrev pub ParamsHaveTypes : List Declaration → ℕ → List Typed → Type 0
ParamsHaveTypes ds l ps = Lead ds l (names_in_params ps) (borrowed_in_params ps)

-- Each name in a function leads to a type, and that of a borrow to a resource.
abbrev pub FuncHasTypes : List Declaration → ℕ → Func → Type 0
FuncHasTypes ds l f = ParamsHaveTypes ds l f.params
    × Lead ds l (names_in_payload f.result) (borrowed_in_payload f.result)

-- each name in a function of a resource leads to a type, and that of a borrow to a resource
abbrev pub ResourceFuncHasTypes : List Declaration → ℕ → ResourceFunc → Type 0
ResourceFuncHasTypes ds l (method n f) = FuncHasTypes ds l f
ResourceFuncHasTypes ds l (static n f) = FuncHasTypes ds l f
ResourceFuncHasTypes ds l (constructor ps) = ParamsHaveTypes ds l ps

-- ---- what a world reaches

-- The name of a member leads to a type, that of its resource to a resource, and so do the names in
-- its text.
abbrev pub MemberHasTypes : List Declaration → ℕ → Member → Type 0
MemberHasTypes ds l (used n) = LeadsToType ds (l, n)
MemberHasTypes ds l (declared n) = LeadsToType ds (l, n)
MemberHasTypes ds l (of_resource r f) =
    LeadsToResource ds (l, r) × ResourceFuncHasTypes ds l f
MemberHasTypes ds l (function n f) = FuncHasTypes ds l f

-- Each name in each member of these instances leads to a type, the l-th instance having the l-th
-- list of names.
abbrev pub InstancesHaveTypes : List File → List Declaration → List Instance → Type 0
InstancesHaveTypes fs ds xs = (l : ℕ) (x : Instance) (i : PlacedInterface)
    → slice_get xs l ≡ Some x → slice_get (interfaces fs) x.interface ≡ Some i
    → AllByRecursion (MemberHasTypes ds l) (members i.interface)

-- Each name in the functions of the world itself leads to a type, where their names are those of
-- the list `own`.
abbrev pub OwnFuncsHaveTypes : PlacedWorld → List Declaration → ℕ → Type 0
OwnFuncsHaveTypes w ds own = AllByRecursion (λ e.
    MatchOption (item_func e) (Unit {0}) (λ f. FuncHasTypes ds own f.1)) w.world.items

-- Each name in these instances of a world, and in the functions of the world itself, leads to a
-- type, and that of a borrow to a resource.
pub record HaveTypes (fs : List File) (w : PlacedWorld) (xs : List Instance) : Type 0 where
  pub of_declarations : AllHaveTypes (declarations fs xs)
  pub of_instances : InstancesHaveTypes fs (declarations fs xs) xs
  pub of_world : OwnFuncsHaveTypes w (declarations fs xs) (length xs)

-- an interface as it is imported
abbrev pub imported : ℕ → Instance
imported n = record { exported = false; interface = n }

-- the interfaces that a world reaches
abbrev pub AreReached : List File → PlacedWorld → List ℕ → Type 0
AreReached fs w ks = (k : ℕ) → Contains ks k ↔ IsReached (rows_of fs) (named fs w) k

-- The instances in which the names of what a world reaches are looked up: those that it imports and
-- exports, in order; or, where an interface uses itself and so there is no order, each interface
-- that it reaches, as it is imported.
pub data AreInstances (fs : List File) (w : PlacedWorld) : List Instance → Type 0 where
  in_order : (into out : List ℕ) → AreWorldExterns fs w into out
      → AreInstances fs w (instances (length (interfaces fs)) into out)
  in_cycle : (ks : List ℕ) → HasInterfaceCycle fs w → AreReached fs w ks
      → AreInstances fs w (map imported ks)
