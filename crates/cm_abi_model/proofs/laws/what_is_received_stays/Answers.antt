use Rattle.cm_abi_model.proofs.ReceivedStays.{received_stays}
use Rattle.cm_abi_model.proofs.laws.what_is_received_stays.Goals as goal

pub returns : goal.returns
returns c = received_stays
