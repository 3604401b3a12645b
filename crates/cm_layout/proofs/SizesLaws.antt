-- Laws of what Sizes defines, for this crate and those above it.
use Rattle.std.proofs.Common.{◌<◌, arith}
use Rattle.cm_layout.specs.Sizes.{align_of_payloads}
use Rattle.cm_types.specs.Types.{Cases, no_cases, plain, carrying}

pub payloads_pos : (cs : Cases) → 0 < align_of_payloads cs
payloads_pos no_cases = omega arith
payloads_pos (plain l cs) = payloads_pos cs
payloads_pos (carrying l t cs) = omega (arith, payloads_pos cs)
