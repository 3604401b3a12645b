use Rattle.cm_text.proofs.LaneLemmas.{widened}
use Rattle.cm_text.proofs.kernels.widen_in.Goals as goal

pub returns-clause-written : goal.returns-clause-written
returns-clause-written c = widened c.args.at c.args.to c.args.bytes.now c.args.out.now c.requires.within c.requires.room
