use Rattle.cm_text.proofs.LaneLemmas.{pick-evens, pick-odds}
use Rattle.cm_text.proofs.kernels.units_at.Goals as goal

pub returns-clause-low : goal.returns-clause-low
returns-clause-low c = pick-evens c.args.at c.args.bytes.now c.requires

pub returns-clause-high : goal.returns-clause-high
returns-clause-high c = pick-odds c.args.at c.args.bytes.now c.requires
