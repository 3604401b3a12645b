use Rattle.std.proofs.Common.{◌∙◌}
use Rattle.std.specs.Simd.Lanes.{chunk}
use Rattle.cm_text.proofs.LaneLemmas.{run_from_parts}
use Rattle.cm_text.proofs.kernels.units_in.Goals as goal

pub returns : goal.returns
returns c =
    c.run_of_units.ensures ∙ run_from_parts (chunk c.args.at 32 c.args.bytes.now) c.units_at.result.0 c.units_at.result.1 c.units_at.ensures.low c.units_at.ensures.high
