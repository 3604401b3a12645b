-- The exit statuses of commands (this project's own choice).
use Rattle.std.specs.Prelude.{ℕ}
use Rattle.cm_tool_files.specs.Numbers.{file_status}
use Rattle.cm_tool_commands.specs.declared.fault.Fault.{Fault}
use Rattle.cm_tool_commands.specs.declared.fault.Fault.TheVariants as fault
use Rattle.cm_tool_commands.specs.declared.outcome.Outcome.{Outcome}
use Rattle.cm_tool_commands.specs.declared.outcome.Outcome.TheVariants as outcome

-- The exit status of a command that ends by a fault: 2 where the words are no command, 4 where a
-- file cannot be read or standard output not be written, else 1.
abbrev pub fault_status : Fault → ℕ
fault_status (fault.Usage text) = 2
fault_status (fault.File name reason tail) = file_status reason
fault_status fault.Output = 4
fault_status _ = 1

-- The exit status of a command that no fault ends.
abbrev pub outcome_status : Outcome → ℕ
outcome_status outcome.Done = 0
outcome_status outcome.Refused = 1
outcome_status outcome.Trapped = 3
