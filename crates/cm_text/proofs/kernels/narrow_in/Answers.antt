use Rattle.std.proofs.Common.{◌∙◌}
use Rattle.std.specs.Simd.Lanes.{chunk}
use Rattle.cm_text.proofs.LaneLemmas.{run_from_parts, narrowed}
use Rattle.cm_text.proofs.kernels.narrow_in.Goals as goal

pub returns-clause-run : goal.returns-clause-run
returns-clause-run c =
    c.run_of_units.ensures ∙ run_from_parts (chunk c.args.at 32 c.args.bytes.now) c.units_at.result.0 c.units_at.result.1 c.units_at.ensures.low c.units_at.ensures.high

pub returns-clause-written : goal.returns-clause-written
returns-clause-written c =
    narrowed c.args.at c.args.to c.args.bytes.now c.args.out.now c.units_at.result.0 c.requires.within c.requires.room c.units_at.ensures.low
