use Rattle.cm_abi_slots.proofs.CallLaws.{as_many_steps}
use Rattle.cm_abi_slots.proofs.laws.each_core_value_has_a_step.Goals as goal

pub returns : goal.returns
returns c = as_many_steps
