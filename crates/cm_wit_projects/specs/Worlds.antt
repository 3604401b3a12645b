-- Worlds with their includes written out (WIT.md, "Item: `include`"; that a name which comes twice
-- is a fault is wit-parser's rule).
use Rattle.std.specs.Prelude.{◌≡◌, ℕ, ◌==◌, Bool, true, false, ◌||◌, not, List, [], ◌∷◌, ◌++◌}
use Rattle.std.specs.Prelude.{Option, Some, None, filter, map, slice_get, if◌then◌else◌}
use Rattle.std.specs.List.{filter_map, flat_map, list_any, list_all}
use Rattle.std.specs.Option.{option_and_then, option_map, option_map_or}
use Rattle.std.specs.Str.{bytes_eq}
use Rattle.cm_wit_reading.specs.Signatures.{Func}
use Rattle.cm_wit_reading.specs.Trees.{UsedName}
use Rattle.cm_wit_projects_reading.specs.Trees.{Gated, Include, InterfaceItem, Kept, Renamed}
use Rattle.cm_wit_projects_reading.specs.Trees.{WorldExtern, WorldItem, defines_type, exports}
use Rattle.cm_wit_projects_reading.specs.Trees.{imports, in_place, includes, interface_at}
use Rattle.cm_wit_projects_reading.specs.Trees.{named_func, uses_types}
use Rattle.cm_wit_projects.specs.Gates.{is_there}
use Rattle.cm_wit_projects.specs.Listed.{Body, Declared, declared, of_interface, of_world, target}
use Rattle.cm_wit_projects.specs.Units.{Unit}

-- ---- what a world has

-- what is imported or exported: an interface that is declared elsewhere, by its number; or under a
-- name of its own an interface in place or a function, which stands in the text of the world of
-- this number, where its types are looked up
pub data Thing : Type 0 where
  instance_of : ℕ → Thing
  instance_in : ℕ → List ℕ → List (Gated InterfaceItem) → Thing
  func_in : ℕ → List ℕ → Kept Func → Thing

-- a name that a type has in a world: the world of this number declares or uses it under another
pub record TypeName : Type 0 where
  pub world : ℕ
  pub declared : List ℕ
  pub name : List ℕ

-- A world with its includes written out.
pub record Flat : Type 0 where
  pub imports : List Thing
  pub exports : List Thing
  pub types : List TypeName

-- ---- what stands in the world's own text

abbrev pub own_thing : List Unit → ℕ → ℕ → WorldExtern → Option Thing
own_thing us unit w (interface_at path) = option_map (λ n. instance_of n) (target us unit path)
own_thing us unit w (named_func name f) = Some (func_in w name f)
own_thing us unit w (in_place name xs) = Some (instance_in w name xs)

abbrev pub own_import : List Unit → ℕ → ℕ → WorldItem → Option Thing
own_import us unit w (imports e) = own_thing us unit w e
own_import us unit w _ = None

abbrev pub own_export : List Unit → ℕ → ℕ → WorldItem → Option Thing
own_export us unit w (exports e) = own_thing us unit w e
own_export us unit w _ = None

abbrev pub used_as : UsedName → List ℕ
used_as u = option_map_or (λ new. new) u.new_name u.name

abbrev pub own_types : ℕ → WorldItem → List TypeName
own_types w (uses_types u) =
    map (λ n. record { world = w; declared = used_as n; name = used_as n }) u.names
own_types w (defines_type name t) = record { world = w; declared = name; name = name } ∷ []
own_types w _ = []

-- the items of a world that are there
abbrev pub items_there : List (List ℕ) → List (Gated WorldItem) → List WorldItem
items_there features gs = map (λ g. g.item.1) (filter (λ g. is_there features g.gates) gs)

abbrev pub own_flat : List Unit → ℕ → ℕ → List WorldItem → Flat
own_flat us unit w xs = record {
  imports = filter_map (own_import us unit w) xs;
  exports = filter_map (own_export us unit w) xs;
  types = flat_map (own_types w) xs;
}

-- ---- what an include brings

-- the name that an included name gets
abbrev pub renamed_to : List Renamed → List ℕ → List ℕ
renamed_to [] name = name
renamed_to (r ∷ rs) name = if bytes_eq r.name name then r.new_name else renamed_to rs name

-- an interface that is declared elsewhere keeps its name
abbrev pub renamed_thing : List Renamed → Thing → Thing
renamed_thing rs (instance_of n) = instance_of n
renamed_thing rs (instance_in w name xs) = instance_in w (renamed_to rs name) xs
renamed_thing rs (func_in w name f) = func_in w (renamed_to rs name) f

abbrev pub renamed_type : List Renamed → TypeName → TypeName
renamed_type rs t = record t { name = renamed_to rs t.name }

abbrev pub renamed_flat : List Renamed → Flat → Flat
renamed_flat rs f = record {
  imports = map (renamed_thing rs) f.imports;
  exports = map (renamed_thing rs) f.exports;
  types = map (renamed_type rs) f.types;
}

-- the name of its own that a thing has
abbrev pub own_name : Thing → Option (List ℕ)
own_name (instance_of n) = None
own_name (instance_in w name xs) = Some name
own_name (func_in w name f) = Some name

-- whether one of these has this name of its own
abbrev pub is_name : List ℕ → Thing → Bool
is_name name t = option_map_or (bytes_eq name) (own_name t) false

abbrev pub has_name : List Thing → List ℕ → Bool
has_name ts name = list_any (is_name name) ts

abbrev pub has_type : List TypeName → List ℕ → Bool
has_type ts name = list_any (λ t. bytes_eq name t.name) ts

-- each new name of an include names something
abbrev pub names_something : Flat → Renamed → Bool
names_something f r =
    has_name f.imports r.name || (has_name f.exports r.name || has_type f.types r.name)

-- whether a name comes twice where one world includes another: types are names among the imports
abbrev pub clashes : List Thing → List TypeName → Thing → Bool
clashes ts types t =
    option_map_or (λ name. has_name ts name || has_type types name) (own_name t) false

abbrev pub are_apart : Flat → Flat → Bool
are_apart f g =
    not (list_any (clashes f.imports f.types) g.imports
    || (list_any (clashes f.exports []) g.exports
    || list_any (λ t. has_type f.types t.name || has_name f.imports t.name) g.types))

-- an interface that comes twice stands once
abbrev pub is_instance : ℕ → Thing → Bool
is_instance n (instance_of m) = n == m
is_instance n (instance_in w name xs) = false
is_instance n (func_in w name f) = false

abbrev pub is_new : List Thing → Thing → Bool
is_new ts (instance_of n) = not (list_any (is_instance n) ts)
is_new ts (instance_in w name xs) = true
is_new ts (func_in w name f) = true

abbrev pub with_things : List Thing → List Thing → List Thing
with_things ts more = ts ++ filter (is_new ts) more

abbrev pub with_flat : Flat → Flat → Flat
with_flat f g = record {
  imports = with_things f.imports g.imports;
  exports = with_things f.exports g.exports;
  types = f.types ++ g.types;
}

-- ---- worlds

abbrev pub include_of : WorldItem → Option Include
include_of (includes i) = Some i
include_of _ = None

-- what an include brings, where each world is written out as these say; none where a new name names
-- nothing
abbrev pub brought : List Unit → ℕ → List Flat → Include → Option Flat
brought us unit flats i = option_and_then
    (λ g. if list_all (names_something g) i.renamed then Some (renamed_flat i.renamed g) else None)
    (option_and_then (slice_get flats) (target us unit i.path))

-- a world with what one more include brings, where no name comes twice
abbrev pub with_brought : Flat → Flat → Option Flat
with_brought f g = if are_apart f g then Some (with_flat f g) else None

abbrev pub with_includes : List Unit → ℕ → List Flat → Option Flat → List Include → Option Flat
with_includes us unit flats f [] = f
with_includes us unit flats f (i ∷ is) = with_includes us unit flats
    (option_and_then (λ x. option_and_then (with_brought x) (brought us unit flats i)) f) is

-- nothing, for an interface
abbrev pub no_things : Flat
no_things = record { imports = []; exports = []; types = [] }

abbrev pub flat_body : List (List ℕ) → List Unit → List Flat → ℕ → ℕ → Body → Option Flat
flat_body features us flats k unit (of_interface i) = Some no_things
flat_body features us flats k unit (of_world w) =
    let xs = items_there features w.items in
    with_includes us unit flats (Some (own_flat us unit k xs)) (filter_map include_of xs)

-- a world's own things, and what its includes bring
abbrev pub flat_of : List (List ℕ) → List Unit → List Flat → ℕ → Declared → Option Flat
flat_of features us flats k d = flat_body features us flats k d.unit d.body

-- Each world is written out as these say, and nothing is wrong with its includes.
abbrev pub AreFlat : List (List ℕ) → List Unit → List Flat → Type 0
AreFlat features us flats = (k : ℕ) (d : Declared) → slice_get (declared us) k ≡ Some d
    → slice_get flats k ≡ flat_of features us flats k d
