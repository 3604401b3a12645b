-- The numbers of faults of names (this project's own choice).
use Rattle.std.specs.Prelude.{ℕ}
use Rattle.cm_types.specs.declared.names.NameFault.{NameFault}
use Rattle.cm_types.specs.declared.names.NameFault.TheVariants as fault

-- the number by which a fault of a name is known
abbrev pub fault_number : NameFault → ℕ
fault_number fault.Empty = 1
fault_number fault.BadFragment = 2
fault_number fault.BadAnnotation = 3
fault_number fault.BadVersion = 4
fault_number fault.Memory = 5
