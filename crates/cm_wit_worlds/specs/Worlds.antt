-- Worlds, and what is wrong with what they reach.
use Rattle.std.specs.Prelude.{◌≡◌, ℕ, List, ◌++◌, Option, map, length}
use Rattle.cm_wit_reading.specs.Trees.{File}
use Rattle.cm_wit_worlds.specs.Interfaces.{interfaces, use_targets}
use Rattle.cm_wit_worlds.specs.Interfaces.{PlacedWorld}
use Rattle.cm_wit_graph.specs.Reach.{Rows, HasMissing, HasCycle}
use Rattle.cm_wit_worlds.specs.declared.fault.WorldFault.{WorldFault}
use Rattle.cm_wit_worlds.specs.declared.fault.WorldFault.TheVariants as fault
use Rattle.cm_wit_worlds.specs.Externs.{imports_from, exports_from, found, AreImports}

-- what each interface uses
abbrev pub rows_of : List File → Rows
rows_of fs = map (use_targets fs) (interfaces fs)

-- what a world's text imports and exports
abbrev pub written_imports : List File → PlacedWorld → List (Option ℕ)
written_imports fs w = imports_from fs w.place (length (interfaces fs)) 0 w.world.items

abbrev pub written_exports : List File → PlacedWorld → List (Option ℕ)
written_exports fs w = exports_from fs w.place (length (interfaces fs)) 0 w.world.items

-- what a world names
abbrev pub named : List File → PlacedWorld → List (Option ℕ)
named fs w = written_imports fs w ++ written_exports fs w

-- A path leads to no interface, in the world or in an interface that the world reaches.
abbrev pub HasNoInterface : List File → PlacedWorld → Type 0
HasNoInterface fs w = HasMissing (rows_of fs) (named fs w)

-- An interface that the world reaches uses itself, by way of others or not.
abbrev pub HasInterfaceCycle : List File → PlacedWorld → Type 0
HasInterfaceCycle fs w = HasCycle (rows_of fs) (named fs w)

-- The imports and the exports of a world, in order.
pub record AreExterns (fs : List File) (w : PlacedWorld) (into out : List ℕ) : Type 0 where
  pub imports :
      AreImports (rows_of fs) (found (written_imports fs w)) (found (written_exports fs w)) into
  pub exports : out ≡ found (written_exports fs w)

-- The imports and exports are those of a world, and nothing is wrong with what its paths lead to.
pub record AreWorldExterns (fs : List File) (w : PlacedWorld) (into out : List ℕ) : Type 0 where
  pub externs : AreExterns fs w into out
  pub found : HasNoInterface fs w → ⊥
  pub acyclic : HasInterfaceCycle fs w → ⊥

-- Why the interfaces of a world cannot be put in order, the smallest number first. Where memory ran
-- out nothing is said.
abbrev pub IsExternFault : List File → PlacedWorld → WorldFault → Type 0
IsExternFault fs w fault.NoSuchInterface = HasNoInterface fs w
IsExternFault fs w fault.Cycle = (HasNoInterface fs w → ⊥) × HasInterfaceCycle fs w
IsExternFault fs w fault.Memory = Unit {0}
IsExternFault fs w _ = ⊥
