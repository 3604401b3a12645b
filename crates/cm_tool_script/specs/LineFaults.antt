-- What a fault of script bytes is for the line that has them (this project's own choice).
use Rattle.cm_tool_script.specs.declared.hex_bytes.ScriptFault.{ScriptFault}
use Rattle.cm_tool_script.specs.declared.hex_bytes.ScriptFault.TheVariants as script
use Rattle.cm_tool_script.specs.declared.statement.LineFault.{LineFault}
use Rattle.cm_tool_script.specs.declared.statement.LineFault.TheVariants as fault

-- The fault of a line whose bytes have this fault.
abbrev pub line_fault_of : ScriptFault → LineFault
line_fault_of script.BadHex = fault.BadHex
line_fault_of script.Memory = fault.Memory
