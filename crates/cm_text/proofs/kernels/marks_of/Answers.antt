use Rattle.cm_text.proofs.LaneLemmas.{marked_16}
use Rattle.cm_text.proofs.kernels.marks_of.Goals as goal

pub returns : goal.returns
returns c = marked_16 c.args.low c.args.high c.fits-high.0
