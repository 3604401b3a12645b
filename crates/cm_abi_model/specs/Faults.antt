-- The numbers of the faults of adapters (this project's own choice).
use Rattle.std.specs.Prelude.{ℕ}
use Rattle.cm_abi_model.specs.declared.fault.AbiFault.{AbiFault}
use Rattle.cm_abi_model.specs.declared.fault.AbiFault.TheVariants as abi_fault

-- the number of the trap that a fault leads to
abbrev pub abi_fault_number : AbiFault → ℕ
abi_fault_number abi_fault.PointerBounds = 4
abi_fault_number abi_fault.Misaligned = 5
abi_fault_number abi_fault.BadChar = 6
abi_fault_number abi_fault.BadCase = 7
abi_fault_number abi_fault.BadText = 8
abi_fault_number abi_fault.TooLarge = 9
abi_fault_number abi_fault.NoHandle = 10
abi_fault_number abi_fault.WrongResource = 11
abi_fault_number abi_fault.StillLent = 12
abi_fault_number abi_fault.NotOwned = 13
abi_fault_number abi_fault.TableFull = 14
abi_fault_number abi_fault.Overlap = 17
abi_fault_number abi_fault.EngineMemory = 20
