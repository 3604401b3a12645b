-- The numbers of the faults of a host's values (this project's own choice).
use Rattle.std.specs.Prelude.{ℕ}
use Rattle.cm_host_values.specs.declared.fault.ValuesFault.{ValuesFault}
use Rattle.cm_host_values.specs.declared.fault.ValuesFault.TheVariants as fault

abbrev pub values_fault_number : ValuesFault → ℕ
values_fault_number fault.WrongTypes = 1
values_fault_number fault.TooLarge = 2
values_fault_number fault.NoRoom = 3
values_fault_number fault.Memory = 4
