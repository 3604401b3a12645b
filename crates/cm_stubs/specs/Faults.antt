-- The numbers of faults of stubs (this project's own choice).
use Rattle.std.specs.Prelude.{ℕ}
use Rattle.cm_stubs.specs.declared.fault.StubFault.{StubFault}
use Rattle.cm_stubs.specs.declared.fault.StubFault.TheVariants as fault

abbrev pub fault_number : StubFault → ℕ
fault_number (fault.Component component f) = 1
fault_number fault.TooMany = 2
fault_number fault.TooLong = 3
fault_number fault.NoResource = 4
fault_number (fault.NotValid f) = 5
fault_number (fault.NotLinked f) = 6
fault_number fault.NotExact = 7
fault_number fault.Memory = 8
