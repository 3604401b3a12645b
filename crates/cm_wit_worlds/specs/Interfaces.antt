-- The interfaces and worlds of packages, and what paths lead to (WIT.md, "Package Names",
-- "Interfaces" and "Worlds").
use Rattle.std.specs.Prelude.{ℕ, ◌+◌, ◌==◌, ◌&&◌, Bool, false, List, [], ◌∷◌, ◌++◌, Option, Some}
use Rattle.std.specs.Prelude.{◌≡◌, None, map, slice_get, slice_index_or}
use Rattle.std.specs.List.{filter_map, position_from}
use Rattle.std.specs.Option.{option_and_then, option_map_or}
use Rattle.std.specs.Str.{bytes_eq}
use Rattle.cm_types.specs.ExternNames.{name_spelling, version_suffix}
use Rattle.cm_types.specs.ExternNames as name
use Rattle.cm_wit_reading.specs.Signatures.{Path, local, foreign}
use Rattle.cm_wit_reading.specs.Trees.{File, FileItem, interface, world, Interface, InterfaceItem}
use Rattle.cm_wit_reading.specs.Trees.{World, uses, defines, has_func}
use Rattle.cm_names.specs.Keys.{Key, first_key}

-- ---- names

-- `namespace:package`, with `@version` where there is one (58 is `:`)
abbrev pub package_text : List ℕ → List ℕ → Option (List ℕ) → List ℕ
package_text namespace pkg version = namespace ++ 58 ∷ (pkg ++ version_suffix version)

abbrev pub package_name : File → List ℕ
package_name f = package_text f.namespace f.pkg f.version

-- the full name of an interface or a world of a package
abbrev pub full_name : File → List ℕ → List ℕ
full_name f text = name_spelling (name.interface f.namespace f.pkg text f.version)

-- ---- interfaces and worlds, each with its package and the package's place among the packages

pub record PlacedInterface : Type 0 where
  pub place : ℕ
  pub file : File
  pub interface : Interface

pub record PlacedWorld : Type 0 where
  pub place : ℕ
  pub file : File
  pub world : World

abbrev pub interface_in : ℕ → File → FileItem → Option PlacedInterface
interface_in p f (interface x) = Some (record { place = p; file = f; interface = x })
interface_in p f (world x) = None

abbrev pub world_in : ℕ → File → FileItem → Option PlacedWorld
world_in p f (interface x) = None
world_in p f (world x) = Some (record { place = p; file = f; world = x })

-- the interfaces, and the worlds, of packages, the first of which has this place
abbrev pub interfaces_from : ℕ → List File → List PlacedInterface
interfaces_from p [] = []
interfaces_from p (f ∷ fs) = filter_map (interface_in p f) f.items ++ interfaces_from (p + 1) fs

abbrev pub worlds_from : ℕ → List File → List PlacedWorld
worlds_from p [] = []
worlds_from p (f ∷ fs) = filter_map (world_in p f) f.items ++ worlds_from (p + 1) fs

abbrev pub interfaces : List File → List PlacedInterface
interfaces fs = interfaces_from 0 fs

abbrev pub worlds : List File → List PlacedWorld
worlds fs = worlds_from 0 fs

-- ---- what names lead to

abbrev pub package_key : File → Key
package_key f = (0, package_name f)

abbrev pub interface_key : PlacedInterface → Key
interface_key x = (x.place, x.interface.name)

-- the package of a name and version: of several the first counts
abbrev pub package_at : List File → List ℕ → Option ℕ
package_at fs text = first_key (map package_key fs) 0 text

-- the interface of a name in the package at a place, by its number among all interfaces
abbrev pub interface_at : List File → ℕ → List ℕ → Option ℕ
interface_at fs p text = first_key (map interface_key (interfaces fs)) p text

-- the interface to which a path leads that stands in the package at a place
abbrev pub target : List File → ℕ → Path → Option ℕ
target fs p (local text) = interface_at fs p text
target fs p (foreign namespace pkg text version) =
    option_and_then (λ q. interface_at fs q text)
    (package_at fs (package_text namespace pkg version))

-- whether a world is the one of a full name, in the package that counts
abbrev pub is_world : List File → List ℕ → PlacedWorld → Bool
is_world fs text w =
    bytes_eq (full_name w.file w.world.name) text
    && option_map_or (λ p. p == w.place) (package_at fs (package_name w.file)) false

-- whether a world has this label, where there is one
abbrev pub has_label : Option (List ℕ) → World → Bool
has_label label w = option_map_or (λ text. bytes_eq text w.name) label false

-- for each package the label by which a world of it is the one of a full name, if one is
abbrev pub AreLabels : List File → List ℕ → List (Option (List ℕ)) → Type 0
AreLabels fs text labels =
    (w : PlacedWorld) → slice_get fs w.place ≡ Some w.file
    → is_world fs text w ≡ has_label (slice_index_or labels w.place None) w.world

-- the world of a full name, by its number among all worlds
abbrev pub world_at : List File → List ℕ → Option ℕ
world_at fs text = position_from (is_world fs text) 0 (worlds fs)

-- ---- what interfaces use

abbrev pub use_path : InterfaceItem → Option Path
use_path (uses u) = Some u.path
use_path (defines text t) = None
use_path (has_func text f) = None

-- the interfaces that an interface uses, in the order of the text; none for a path that leads to
-- none
abbrev pub use_targets : List File → PlacedInterface → List (Option ℕ)
use_targets fs x = map (target fs x.place) (filter_map use_path x.interface.items)
