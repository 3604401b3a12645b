-- The numbers of the faults of files, and the exit statuses of commands that they end (this
-- project's own choice).
use Rattle.std.specs.Prelude.{ℕ}
use Rattle.cm_tool_files.specs.declared.files.FileFault.{FileFault}
use Rattle.cm_tool_files.specs.declared.files.FileFault.TheVariants.{Read, Memory}
use Rattle.cm_tool_files.specs.declared.text_fault.TextFileFault.{TextFileFault}
use Rattle.cm_tool_files.specs.declared.text_fault.TextFileFault.TheVariants as text
use Rattle.cm_tool_files.specs.declared.bad_file.FileReason.{FileReason}
use Rattle.cm_tool_files.specs.declared.bad_file.FileReason.TheVariants as reason

-- The number by which a fault of a file is known.
abbrev pub file_fault_number : FileFault → ℕ
file_fault_number (Read kind) = 1
file_fault_number Memory = 2

-- The number by which a fault of a script's or a WIT text's bytes is known.
abbrev pub text_fault_number : TextFileFault → ℕ
text_fault_number text.TooLong = 1
text_fault_number (text.BadUtf8 at) = 2

-- The exit status of a command that a file ends: whether the file was read.
abbrev pub file_status : FileReason → ℕ
file_status (reason.Unread f) = 4
file_status _ = 1
