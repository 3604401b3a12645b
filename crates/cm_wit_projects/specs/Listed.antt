-- The interfaces and worlds of a project, and what paths lead to (WIT.md, "Package Names",
-- "Interfaces", "Worlds" and `toplevel-use-item`).
use Rattle.std.specs.Prelude.{ℕ, ◌+◌, List, [], ◌∷◌, ◌++◌, map, Option, Some, None, slice_get}
use Rattle.std.specs.List.{filter_map}
use Rattle.std.specs.Option.{option_and_then, option_map, option_map_or}
use Rattle.cm_names.specs.Keys.{Key, first_key}
use Rattle.cm_wit_reading.specs.Signatures.{Path, foreign, local}
use Rattle.cm_wit_projects_reading.specs.Trees.{Gate, Gated, Interface, PackageItem, Placed, TopUse}
use Rattle.cm_wit_projects_reading.specs.Trees.{World, interface, top_use, world, PackageName}
use Rattle.cm_wit_projects.specs.Packages.{package_text}
use Rattle.cm_wit_projects.specs.Units.{Unit}

-- ---- what is declared

-- an interface or a world
pub data Body : Type 0 where
  of_interface : Interface → Body
  of_world : World → Body

abbrev pub body_name : Body → List ℕ
body_name (of_interface i) = i.name
body_name (of_world w) = w.name

-- an interface or a world with the number of its unit, its gates, and how many bytes of the text
-- are left from it on
pub record Declared : Type 0 where
  pub unit : ℕ
  pub gates : List (Placed Gate)
  pub left : ℕ
  pub body : Body

abbrev pub body_of : PackageItem → Option Body
body_of (top_use u) = None
body_of (interface i) = Some (of_interface i)
body_of (world w) = Some (of_world w)

abbrev pub declared_as : ℕ → Gated PackageItem → Option Declared
declared_as k g = option_map
    (λ b. record { unit = k; gates = g.gates; left = g.item.0; body = b }) (body_of g.item.1)

-- those of units, from the k-th on
abbrev pub declared_from : ℕ → List Unit → List Declared
declared_from k [] = []
declared_from k (u ∷ us) = filter_map (declared_as k) u.items ++ declared_from (k + 1) us

abbrev pub declared : List Unit → List Declared
declared us = declared_from 0 us

-- ---- by name

-- packages are known by the number of their first unit
abbrev pub package_key : Unit → Key
package_key u = (0, package_text u.name)

abbrev pub package_at : List Unit → List ℕ → Option ℕ
package_at us text = first_key (map package_key us) 0 text

-- the package of the k-th unit
abbrev pub home : List Unit → ℕ → Option ℕ
home us k = option_and_then (λ u. package_at us (package_text u.name)) (slice_get us k)

-- an interface or a world is known by its package and its name
abbrev pub declared_key : List Unit → Declared → Key
declared_key us d = (option_map_or (λ h. h) (home us d.unit) d.unit, body_name d.body)

abbrev pub named_in : List Unit → ℕ → List ℕ → Option ℕ
named_in us pkg name = first_key (map (declared_key us) (declared us)) pkg name

-- ---- by path, where no names of a file are looked at

abbrev pub own_target : List Unit → ℕ → List ℕ → Option ℕ
own_target us k name = option_and_then (λ h. named_in us h name) (home us k)

abbrev pub foreign_target : List Unit → PackageName → List ℕ → Option ℕ
foreign_target us p name =
    option_and_then (λ h. named_in us h name) (package_at us (package_text p))

abbrev pub plain_target : List Unit → ℕ → Path → Option ℕ
plain_target us k (local name) = own_target us k name
plain_target us k (foreign namespace pkg name version) =
    foreign_target us (record { namespace = namespace; name = pkg; version = version }) name

-- ---- names of a file, or of a package in braces

-- the name that a use at the top gives, and its path
pub record NamedPath : Type 0 where
  pub unit : ℕ
  pub name : List ℕ
  pub path : Path

abbrev pub path_name : Path → List ℕ
path_name (local name) = name
path_name (foreign namespace pkg name version) = name

abbrev pub named_path : ℕ → TopUse → NamedPath
named_path k u = record {
  unit = k;
  name = option_map_or (λ n. n) u.new_name (path_name u.path);
  path = u.path;
}

abbrev pub used_at_top : PackageItem → Option TopUse
used_at_top (top_use u) = Some u
used_at_top (interface i) = None
used_at_top (world w) = None

abbrev pub named_as : ℕ → Gated PackageItem → Option NamedPath
named_as k g = option_map (named_path k) (used_at_top g.item.1)

abbrev pub named_from : ℕ → List Unit → List NamedPath
named_from k [] = []
named_from k (u ∷ us) = filter_map (named_as k) u.items ++ named_from (k + 1) us

abbrev pub path_key : NamedPath → Key
path_key n = (n.unit, n.name)

-- the use at the top that gives a name in the k-th unit
abbrev pub use_at : List Unit → ℕ → List ℕ → Option NamedPath
use_at us k name =
    option_and_then (slice_get (named_from 0 us))
    (first_key (map path_key (named_from 0 us)) k name)

-- ---- by path

-- a name of the file hides that of its package; it leads where its path leads, in which no names of
-- the file are looked at
abbrev pub local_target : List Unit → ℕ → List ℕ → Option ℕ
local_target us k name = option_map_or (λ n. plain_target us k n.path)
    (use_at us k name) (own_target us k name)

-- the interface or the world to which a path leads that stands in the k-th unit, by its number
-- among those that are declared
abbrev pub target : List Unit → ℕ → Path → Option ℕ
target us k (local name) = local_target us k name
target us k (foreign namespace pkg name version) =
    foreign_target us (record { namespace = namespace; name = pkg; version = version }) name
