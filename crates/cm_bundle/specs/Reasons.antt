-- The numbers of reasons.
use Rattle.std.specs.Prelude.{ℕ}
use Rattle.cm_bundle.specs.declared.fault.BundleReason.{BundleReason}
use Rattle.cm_bundle.specs.declared.fault.BundleReason.TheVariants as reasons

-- The number by which a reason is known, this project's own.
abbrev pub reason_number : BundleReason → ℕ
reason_number reasons.BadPreamble = 1
reason_number reasons.Truncated = 2
reason_number reasons.BadNumber = 3
reason_number reasons.OtherNumber = 4
reason_number reasons.SizeMismatch = 5
reason_number reasons.UnknownCode = 6
reason_number reasons.NoSuchPart = 7
reason_number reasons.BadUtf8 = 8
reason_number reasons.TooManyParts = 9
reason_number reasons.Surplus = 10
reason_number reasons.TooLong = 11
reason_number reasons.Memory = 12
reason_number reasons.BadFront = 13
