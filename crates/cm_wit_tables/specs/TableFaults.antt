-- Why the declarations of a world have no table.
use Rattle.std.specs.Prelude.{ℕ, List}
use Rattle.cm_wit_meanings.specs.declared.fault.MeaningFault.{MeaningFault}
use Rattle.cm_wit_meanings.specs.declared.fault.MeaningFault.TheVariants as one
use Rattle.cm_wit_tables.specs.Declarations.{Declaration, HasTypeCycle}
use Rattle.cm_wit_tables.specs.TypeFaults.{AllHaveTypes}
use Rattle.cm_wit_tables.specs.FillFaults.{HasTooLarge, HasUnspellable}
use Rattle.cm_wit_tables.specs.declared.fault.TableFault.{TableFault}
use Rattle.cm_wit_tables.specs.declared.fault.TableFault.TheVariants as fault

-- the numbers of the faults
abbrev pub table_fault_number : TableFault → ℕ
table_fault_number fault.NoSuchType = 1
table_fault_number fault.Cycle = 2
table_fault_number fault.TooLarge = 3
table_fault_number fault.NotSpellable = 4
table_fault_number fault.Memory = 5

-- what the fault of one declaration is for the table
abbrev pub table_fault : MeaningFault → TableFault
table_fault one.NoSuchType = fault.NoSuchType
table_fault one.TooLarge = fault.TooLarge
table_fault one.NotSpellable = fault.NotSpellable
table_fault one.Memory = fault.Memory

-- Why declarations have no table, the smallest number first; of two faults of one declaration, the
-- first that is found. Where memory ran out nothing is said.
abbrev pub IsTableFault : List Declaration → TableFault → Type 0
IsTableFault ds fault.NoSuchType = ¬ (AllHaveTypes ds)
IsTableFault ds fault.Cycle = AllHaveTypes ds × HasTypeCycle ds
IsTableFault ds fault.TooLarge = AllHaveTypes ds × ¬ (HasTypeCycle ds) × HasTooLarge ds
IsTableFault ds fault.NotSpellable = AllHaveTypes ds × ¬ (HasTypeCycle ds) × HasUnspellable ds
IsTableFault ds fault.Memory = Unit {0}
