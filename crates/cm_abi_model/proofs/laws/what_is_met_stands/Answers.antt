use Rattle.cm_abi_model.proofs.MetThere.{passed}
use Rattle.cm_abi_model.proofs.laws.what_is_met_stands.Goals as goal

pub returns : goal.returns
returns c = passed
