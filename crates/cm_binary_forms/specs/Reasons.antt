-- The numbers of reasons.
use Rattle.std.specs.Prelude.{ℕ}
use Rattle.cm_binary_forms.specs.declared.fault.DecodeReason.{DecodeReason}
use Rattle.cm_binary_forms.specs.declared.fault.DecodeReason.TheVariants.{BadPreamble, Truncated}
use Rattle.cm_binary_forms.specs.declared.fault.DecodeReason.TheVariants.{BadNumber, SizeMismatch}
use Rattle.cm_binary_forms.specs.declared.fault.DecodeReason.TheVariants.{UnknownCode, Unsupported}
use Rattle.cm_binary_forms.specs.declared.fault.DecodeReason.TheVariants.{BadUtf8, BadName}
use Rattle.cm_binary_forms.specs.declared.fault.DecodeReason.TheVariants.{NotAModule, TooMany}
use Rattle.cm_binary_forms.specs.declared.fault.DecodeReason.TheVariants.{TooLong, Read, Memory}

-- The number by which a reason is known.
abbrev pub reason_number : DecodeReason → ℕ
reason_number BadPreamble = 1
reason_number Truncated = 2
reason_number BadNumber = 3
reason_number SizeMismatch = 4
reason_number UnknownCode = 5
reason_number (Unsupported feature) = 6
reason_number BadUtf8 = 7
reason_number BadName = 8
reason_number NotAModule = 9
reason_number TooMany = 10
reason_number TooLong = 11
reason_number Read = 12
reason_number Memory = 13
