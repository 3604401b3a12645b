-- The numbers of faults (this project's own choice).
use Rattle.std.specs.Prelude.{ℕ}
use Rattle.cm_values.specs.declared.print_fault.PrintFault.{PrintFault}
use Rattle.cm_values.specs.declared.print_fault.PrintFault.TheVariants as fault

abbrev pub print_fault_number : PrintFault → ℕ
print_fault_number fault.WrongType = 1
print_fault_number fault.Memory = 2
