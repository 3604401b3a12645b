use Rattle.cm_text.proofs.LaneLemmas.{selected_e0_16}
use Rattle.cm_text.proofs.kernels.below_e0.Goals as goal

pub returns : goal.returns
returns c = selected_e0_16 c.args.high c.fits-high.0
