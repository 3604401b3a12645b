use Rattle.cm_abi_load.proofs.SizedLaws.{align_pos, sized}
use Rattle.cm_abi_load.proofs.laws.numbers_are_sized.Goals as goal

pub returns-clause-sized : goal.returns-clause-sized
returns-clause-sized c = sized

pub returns-clause-aligned : goal.returns-clause-aligned
returns-clause-aligned c = align_pos
