-- The fronts of the names of what worlds import and export (Explainer.md, "Import and Export
-- Definitions").
use Rattle.std.specs.Prelude.{◌≡◌, List, ◌∷◌, Some, map, slice_get}
use Rattle.std.specs.List.{AllByRecursion}
use Rattle.cm_types_arena.specs.declared.names.Front.{Front}
use Rattle.cm_types_arena.specs.declared.names.Front.TheVariants as front
use Rattle.cm_wit_reading.specs.Trees.{File}
use Rattle.cm_wit_worlds.specs.Interfaces.{PlacedInterface}

-- the front of the names of a package's interfaces
abbrev pub package_front : File → Front
package_front f =
    front.Interface (record { namespace = f.namespace; name = f.pkg; version = f.version })

-- that of labels alone, and behind it those of packages
abbrev pub package_fronts : List File → List Front
package_fronts fs = front.Plain ∷ map package_front fs

-- Each of these interfaces has the package at its place.
abbrev pub HavePackages : List File → List PlacedInterface → Type 0
HavePackages fs is = AllByRecursion (λ i. slice_get fs i.place ≡ Some i.file) is
