-- The numbers of the faults of script bytes (this project's own choice).
use Rattle.std.specs.Prelude.{ℕ}
use Rattle.cm_tool_script.specs.declared.hex_bytes.ScriptFault.{ScriptFault}
use Rattle.cm_tool_script.specs.declared.hex_bytes.ScriptFault.TheVariants.{BadHex, Memory}

-- The number by which a fault of script bytes is known.
abbrev pub script_fault_number : ScriptFault → ℕ
script_fault_number BadHex = 1
script_fault_number Memory = 2
