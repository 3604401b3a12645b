-- The numbers of reasons (this project's own choice).
use Rattle.std.specs.Prelude.{ℕ}
use Rattle.cm_values.specs.declared.value_fault.ValueReason.{ValueReason}
use Rattle.cm_values.specs.declared.value_fault.ValueReason.TheVariants as reason

abbrev pub reason_number : ValueReason → ℕ
reason_number reason.Unexpected = 1
reason_number reason.BadEscape = 2
reason_number reason.NotUtf8 = 3
reason_number reason.NotOneChar = 4
reason_number reason.OutOfRange = 5
reason_number reason.UnknownName = 6
reason_number reason.WrongLength = 7
reason_number reason.Memory = 8
