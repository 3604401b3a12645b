-- The numbers of the reasons why nothing is shown (this project's own choice).
use Rattle.std.specs.Prelude.{ℕ}
use Rattle.cm_tool_show.specs.declared.fault.ShowFault.{ShowFault}
use Rattle.cm_tool_show.specs.declared.fault.ShowFault.TheVariants as fault

abbrev pub show_fault_number : ShowFault → ℕ
show_fault_number fault.TooLong = 1
show_fault_number fault.Memory = 2
