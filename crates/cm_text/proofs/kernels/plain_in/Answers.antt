use Rattle.std.proofs.Common.{◌∙◌, ap, map, nat_lt}
use Rattle.std.specs.List.{prefix_len}
use Rattle.std.specs.Simd.Lanes.{chunk}
use Rattle.cm_text.specs.Lanes.{second_bytes, below_e0}
use Rattle.cm_text.proofs.LaneLemmas.{plain_run}
use Rattle.cm_text.proofs.kernels.plain_in.Goals as goal

pub returns : goal.returns
returns c =
    c.run_below.ensures
    ∙ ap (prefix_len (λ x. nat_lt x 216)) (c.below_e0.ensures ∙ ap (map below_e0) c.units_at.ensures.high)
    ∙ plain_run (second_bytes (chunk c.args.at 32 c.args.bytes.now))
