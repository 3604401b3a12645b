-- Why the names in what a world reaches do not all lead to types.
use Rattle.std.specs.Prelude.{List}
use Rattle.cm_wit_reading.specs.Trees.{File}
use Rattle.cm_wit_worlds.specs.Interfaces.{PlacedWorld}
use Rattle.cm_wit_tables.specs.Worlds.{Instance}
use Rattle.cm_wit_worlds.specs.declared.fault.WorldFault.{WorldFault}
use Rattle.cm_wit_worlds.specs.declared.fault.WorldFault.TheVariants as fault
use Rattle.cm_wit_signature.specs.Named.{HaveTypes}

-- A name in these instances of a world leads to no type. Where memory ran out nothing is said.
abbrev pub IsTypingFault : List File → PlacedWorld → List Instance → WorldFault → Type 0
IsTypingFault fs w xs fault.NoSuchType = ¬ (HaveTypes fs w xs)
IsTypingFault fs w xs fault.Memory = Unit {0}
IsTypingFault fs w xs _ = ⊥
