-- What the files of a project have, package by package (WIT.md, `wit-file` and
-- `nested-package-definition`).
use Rattle.std.specs.Prelude.{ℕ, ◌+◌, List, [], ◌∷◌, ◌++◌, Option, Some, None}
use Rattle.std.specs.List.{filter_map}
use Rattle.std.specs.Option.{option_map, option_map_or}
use Rattle.cm_wit_projects_reading.specs.Trees.{File, FileItem, Gated, PackageItem, PackageName}
use Rattle.cm_wit_projects_reading.specs.Trees.{item, nested}
use Rattle.cm_wit_projects.specs.Packages.{nested_of, package_of}

-- Items of a package that stand together, in a file or in braces: uses at the top among them are
-- theirs alone.
pub record Unit : Type 0 where
  pub folder : ℕ
  pub file : ℕ
  pub name : PackageName
  pub items : List (Gated PackageItem)

-- the item of the file's own package that an item is
abbrev pub own_of : FileItem → Option PackageItem
own_of (item x) = Some x
own_of (nested p) = None

abbrev pub own_item : Gated FileItem → Option (Gated PackageItem)
own_item g =
    option_map (λ x. record { gates = g.gates; item = (g.item.0, x) }) (own_of g.item.1)

-- those of the file's own package, and of one in braces
abbrev pub own_unit : ℕ → ℕ → PackageName → File → Unit
own_unit folder n p f =
    record { folder = folder; file = n; name = p; items = filter_map own_item f.items }

abbrev pub braced_unit : ℕ → ℕ → Gated FileItem → Option Unit
braced_unit folder n g = option_map
    (λ p. record { folder = folder; file = n; name = p.name; items = p.items })
    (nested_of g.item.1)

-- the units of the files of a folder that has this package, of which the first is the n-th
abbrev pub units_from : ℕ → ℕ → PackageName → List File → List Unit
units_from folder n p [] = []
units_from folder n p (f ∷ fs) =
    own_unit folder n p f ∷ filter_map (braced_unit folder n) f.items
    ++ units_from folder (n + 1) p fs

-- those of a folder
abbrev pub units_in : ℕ → List File → List Unit
units_in folder fs = option_map_or (λ p. units_from folder 0 p fs) (package_of fs) []

-- those of folders, of which the first has this number
abbrev pub units_of : ℕ → List (List File) → List Unit
units_of folder [] = []
units_of folder (fs ∷ others) = units_in folder fs ++ units_of (folder + 1) others
