-- The exit statuses of a command (this project's own choice).
use Rattle.std.specs.Prelude.{ℕ}
use Rattle.cm_tool_commands.specs.Statuses as tool
use Rattle.cm_hux_files.specs.declared.ending.Ending.{Ending}
use Rattle.cm_hux_files.specs.declared.ending.Ending.TheVariants as ending
use Rattle.cm_hux_files.specs.declared.fault.Fault.{Fault}
use Rattle.cm_hux_files.specs.declared.fault.Fault.TheVariants as fault
use Rattle.cm_hux_files.specs.declared.fault.WhyNoFile.{WhyNoFile}
use Rattle.cm_hux_files.specs.declared.fault.WhyNoFile.TheVariants as whys
use Rattle.cm_tool_commands.specs.cm_tool_files.Numbers.{file_status}

abbrev pub ending_status : Ending → ℕ
ending_status ending.Done = 0
ending_status ending.Refused = 1
ending_status ending.Usage = 2
ending_status ending.Trapped = 3
ending_status ending.Unread = 4

-- The exit status of a command that ends by a component file: 4 where it cannot be read, else 1.
abbrev pub why_status : WhyNoFile → ℕ
why_status (whys.Reason r) = file_status r
why_status _ = 1

-- The exit status of a command that ends by a fault: 2 where the words are no command, 4 where a
-- file or a stream cannot be read or written, else 1.
abbrev pub fault_status : Fault → ℕ
fault_status (fault.File name w tail) = why_status w
fault_status (fault.Usage text) = 2
fault_status (fault.Tool f) = tool.fault_status f
fault_status (fault.Unwritten name kind) = 4
fault_status fault.Input = 4
fault_status fault.Output = 4
fault_status _ = 1
