use Rattle.cm_abi_model.proofs.StoredOnce.{call_stays}
use Rattle.cm_abi_model.proofs.laws.what_is_stored_stays.Goals as goal

pub returns : goal.returns
returns c = call_stays
