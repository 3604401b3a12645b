-- The numbers of the faults of handle tables (this project's own choice).
use Rattle.std.specs.Prelude.{ℕ}
use Rattle.cm_handles.specs.declared.fault.HandleFault.{HandleFault}
use Rattle.cm_handles.specs.declared.fault.HandleFault.TheVariants as fault

-- the number by which a fault of a handle table is known
abbrev pub handle_fault_number : HandleFault → ℕ
handle_fault_number fault.NoHandle = 1
handle_fault_number fault.WrongResource = 2
handle_fault_number fault.StillLent = 3
handle_fault_number fault.NotOwned = 4
handle_fault_number fault.Full = 5
handle_fault_number fault.Memory = 6
