-- The numbers of the faults of worlds.
use Rattle.std.specs.Prelude.{ℕ}
use Rattle.cm_wit_worlds.specs.declared.fault.WorldFault.{WorldFault}
use Rattle.cm_wit_worlds.specs.declared.fault.WorldFault.TheVariants as fault

abbrev pub world_fault_number : WorldFault → ℕ
world_fault_number fault.NoSuchWorld = 1
world_fault_number fault.NoSuchInterface = 2
world_fault_number fault.NoSuchType = 3
world_fault_number fault.Cycle = 4
world_fault_number fault.TooLarge = 5
world_fault_number fault.Memory = 6
