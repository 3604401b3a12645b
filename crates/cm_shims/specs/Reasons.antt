-- The numbers of reasons.
use Rattle.std.specs.Prelude.{ℕ}
use Rattle.cm_shims_plain.specs.declared.wants.Want.{Want}
use Rattle.cm_shims_plain.specs.declared.wants.Want.TheVariants as wants
use Rattle.cm_shims.specs.declared.fault.FitReason.{FitReason}
use Rattle.cm_shims.specs.declared.fault.FitReason.TheVariants as reasons

-- The number by which a reason is known.
abbrev pub fit_reason_number : FitReason → ℕ
fit_reason_number reasons.OtherFunc = 1
fit_reason_number reasons.OtherType = 2
fit_reason_number reasons.NoResource = 3
fit_reason_number reasons.Memory = 4

-- Why a want is refused that does not hold.
abbrev pub reason_of : Want → FitReason
reason_of (wants.Func f t) = reasons.OtherFunc
reason_of (wants.Type p t) = reasons.OtherType
reason_of (wants.Resource p) = reasons.NoResource
