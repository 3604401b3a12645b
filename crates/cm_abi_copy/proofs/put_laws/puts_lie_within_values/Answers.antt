use Rattle.cm_abi_copy.proofs.PutWithin.{puts_within, slots_within}
use Rattle.cm_abi_copy.proofs.put_laws.puts_lie_within_values.Goals as goal

pub returns-clause-stored : goal.returns-clause-stored
returns-clause-stored c = puts_within

pub returns-clause-passed : goal.returns-clause-passed
returns-clause-passed c = slots_within
