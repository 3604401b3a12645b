-- The faults of worlds that those of tables and of meanings are.
use Rattle.cm_wit_meanings.specs.declared.fault.MeaningFault.{MeaningFault}
use Rattle.cm_wit_meanings.specs.declared.fault.MeaningFault.TheVariants as one
use Rattle.cm_wit_tables.specs.declared.fault.TableFault.{TableFault}
use Rattle.cm_wit_tables.specs.declared.fault.TableFault.TheVariants as table
use Rattle.cm_wit_worlds.specs.declared.fault.WorldFault.{WorldFault}
use Rattle.cm_wit_worlds.specs.declared.fault.WorldFault.TheVariants as fault

abbrev pub fault_of_table : TableFault → WorldFault
fault_of_table table.NoSuchType = fault.NoSuchType
fault_of_table table.Cycle = fault.Cycle
fault_of_table table.TooLarge = fault.TooLarge
fault_of_table table.NotSpellable = fault.TooLarge
fault_of_table table.Memory = fault.Memory

abbrev pub fault_of_meaning : MeaningFault → WorldFault
fault_of_meaning one.NoSuchType = fault.NoSuchType
fault_of_meaning one.TooLarge = fault.TooLarge
fault_of_meaning one.NotSpellable = fault.TooLarge
fault_of_meaning one.Memory = fault.Memory
