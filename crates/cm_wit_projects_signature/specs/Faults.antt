-- Why a world of a project has no signature.
use Rattle.std.specs.Prelude.{ℕ}
use Rattle.cm_wit_meanings.specs.declared.fault.MeaningFault.{MeaningFault}
use Rattle.cm_wit_meanings.specs.declared.fault.MeaningFault.TheVariants as one
use Rattle.cm_wit_projects_signature.specs.declared.fault.SignatureFault.{SignatureFault}
use Rattle.cm_wit_projects_signature.specs.declared.fault.SignatureFault.TheVariants as fault
use Rattle.cm_wit_tables.specs.declared.fault.TableFault.{TableFault}
use Rattle.cm_wit_tables.specs.declared.fault.TableFault.TheVariants as table

-- the numbers of the faults
abbrev pub signature_fault_number : SignatureFault → ℕ
signature_fault_number fault.NoSuchWorld = 1
signature_fault_number (fault.At f) = 2
signature_fault_number fault.TooLarge = 3
signature_fault_number fault.NoSuchType = 4
signature_fault_number fault.Memory = 5

-- what the fault of a table is for the world
abbrev pub fault_of_table : TableFault → SignatureFault
fault_of_table table.NoSuchType = fault.NoSuchType
fault_of_table table.Cycle = fault.NoSuchType
fault_of_table table.TooLarge = fault.TooLarge
fault_of_table table.NotSpellable = fault.TooLarge
fault_of_table table.Memory = fault.Memory

-- what the fault of a function is for the world
abbrev pub fault_of_meaning : MeaningFault → SignatureFault
fault_of_meaning one.NoSuchType = fault.NoSuchType
fault_of_meaning one.TooLarge = fault.TooLarge
fault_of_meaning one.NotSpellable = fault.TooLarge
fault_of_meaning one.Memory = fault.Memory
