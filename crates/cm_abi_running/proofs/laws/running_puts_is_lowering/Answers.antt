use Rattle.cm_abi_running.proofs.SlotPutLaws.{lowered_put}
use Rattle.cm_abi_running.proofs.laws.running_puts_is_lowering.Goals as goal

pub returns : goal.returns
returns c w g slots x k n h s after v small sized is = lowered_put w g small slots x sized k s after v is n h
