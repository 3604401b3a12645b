use Rattle.cm_abi_running.proofs.PutLaws.{stored_put}
use Rattle.cm_abi_running.proofs.laws.running_puts_is_storing.Goals as goal

pub returns : goal.returns
returns c w g x p q k h s after v small sized is = stored_put w g small x sized p s after v is q k h
