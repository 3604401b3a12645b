-- The numbers of reasons.
use Rattle.std.specs.Prelude.{ℕ}
use Rattle.cm_shims_plain.specs.declared.fault.ShimReason.{ShimReason}
use Rattle.cm_shims_plain.specs.declared.fault.ShimReason.TheVariants as reasons

-- The number by which a reason is known.
abbrev pub shim_reason_number : ShimReason → ℕ
shim_reason_number reasons.NoSuchShim = 1
shim_reason_number reasons.MissingArgument = 2
shim_reason_number reasons.NoSuchType = 3
shim_reason_number reasons.NoSuchFunc = 4
shim_reason_number reasons.OtherType = 5
shim_reason_number reasons.TooLong = 6
shim_reason_number reasons.NameTwice = 7
