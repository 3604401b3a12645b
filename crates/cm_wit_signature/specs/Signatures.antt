-- The signature of a world: what it imports and exports, each with its type (WIT.md, "Worlds").
use Rattle.std.specs.Prelude.{ℕ, ◌+◌, ◌-◌, nat_lt, List, [], ◌∷◌, Option, Some, None}
use Rattle.std.specs.Prelude.{filter, length, slice_get, if◌then◌else◌}
use Rattle.std.specs.Option.{option_map, option_and_then}
use Rattle.cm_types.specs.Signatures.{NamedExtern, SignatureTy, func, instance}
use Rattle.cm_wit_reading.specs.Signatures.{Func}
use Rattle.cm_wit_reading.specs.Trees.{File, WorldExtern, WorldItem, interface_at, named_func}
use Rattle.cm_wit_reading.specs.Trees.{imports, exports}
use Rattle.cm_wit_worlds.specs.Interfaces.{PlacedInterface, PlacedWorld, full_name, interfaces}
use Rattle.cm_wit_meanings.specs.Scopes.{Meaning, Scope}
use Rattle.cm_wit_meanings.specs.Meanings.{func_meaning}
use Rattle.cm_wit_tables.specs.Tables.{scope_of}
use Rattle.cm_wit_tables.specs.Worlds.{instances, declarations}
use Rattle.cm_wit_signature.specs.Members.{items_in}

-- ---- functions of the world itself

-- a function with its name
abbrev pub NamedFunc : Type 0
NamedFunc = List ℕ × Func

abbrev pub extern_func : WorldExtern → Option NamedFunc
extern_func (interface_at path) = None
extern_func (named_func n f) = Some (n, f)

abbrev pub item_func : WorldItem → Option NamedFunc
item_func (imports e) = extern_func e
item_func (exports e) = extern_func e

-- the function that the j-th item of a world has
abbrev pub func_at : PlacedWorld → ℕ → Option NamedFunc
func_at w j = option_and_then item_func (slice_get w.world.items j)

-- ---- imports and exports

-- what a list of names has its names stand for, by the list's number
abbrev pub Scopes : Type 0
Scopes = ℕ → Scope

-- a function, whose names this scope has
abbrev pub func_extern : Scope → NamedFunc → Option NamedExtern
func_extern s f = option_map (λ t. record { name = f.0; desc = func t }) (func_meaning s f.1)

-- the instance of an interface, by its full name
abbrev pub interface_extern : Scope → PlacedInterface → Option NamedExtern
interface_extern s i =
    option_map (λ is. record { name = full_name i.file i.interface.name; desc = instance is })
    (items_in s i.interface)

-- that of the n-th of all interfaces
abbrev pub instance_extern : List PlacedInterface → Scope → ℕ → Option NamedExtern
instance_extern all s n = option_and_then (interface_extern s) (slice_get all n)

-- one in front of others, where all are there
abbrev pub in_front : {A : Type 0} → Option A → Option (List A) → Option (List A)
in_front one others = option_and_then (λ x. option_map (λ xs. x ∷ xs) others) one

-- a function of the world itself in front of others
abbrev pub func_in_front : Scope → Option NamedFunc → Option (List NamedExtern)
    → Option (List NamedExtern)
func_in_front s None others = others
func_in_front s (Some f) others = in_front (func_extern s f) others

-- What these numbers stand for, of all interfaces. That of an interface stands for its instance,
-- the first of which has the l-th list of names; and those from the number of all interfaces on
-- stand for functions of the world itself, whose names are those of the list `own`.
abbrev pub externs_from : List PlacedInterface → PlacedWorld → Scopes → ℕ → ℕ → List ℕ
    → Option (List NamedExtern)
externs_from all w scopes own l [] = Some []
externs_from all w scopes own l (n ∷ ns) =
    if nat_lt n (length all) then in_front (instance_extern all (scopes l) n)
    (externs_from all w scopes own (l + 1) ns)
    else func_in_front (scopes own) (func_at w (n - length all))
    (externs_from all w scopes own l ns)

-- the interfaces among what is imported or exported
abbrev pub interfaces_among : List PlacedInterface → List ℕ → List ℕ
interfaces_among all ns = filter (λ n. nat_lt n (length all)) ns

-- imports with exports, where both are there
abbrev pub with_exports : Option (List NamedExtern) → Option (List NamedExtern)
    → Option SignatureTy
with_exports into out =
    option_and_then (λ is. option_map (λ es. record { imports = is; exports = es }) out) into

-- The signature of a world that imports and exports these, in order, where the declarations of its
-- interfaces stand for what this table has. The instances have the lists of names in order, imports
-- first; the functions of the world itself have the list behind those, in which nothing is
-- declared.
abbrev pub signature_in : List File → PlacedWorld → List ℕ → List ℕ → List (Option Meaning)
    → Option SignatureTy
signature_in fs w into out table =
    let all = interfaces fs in
    let xs = instances (length all) into out in
    let scopes = scope_of (declarations fs xs) table in
    with_exports (externs_from all w scopes (length xs) 0 into)
    (externs_from all w scopes (length xs) (length (interfaces_among all into)) out)
