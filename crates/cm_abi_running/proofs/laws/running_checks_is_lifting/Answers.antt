use Rattle.cm_abi_running.proofs.CheckLaws.{looked_at}
use Rattle.cm_abi_running.proofs.laws.running_checks_is_lifting.Goals as goal

pub returns : goal.returns
returns c = looked_at
