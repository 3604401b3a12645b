use Rattle.cm_abi_model.proofs.InTurn.{in_turn}
use Rattle.cm_abi_model.proofs.laws.handing_over_goes_in_turn.Goals as goal

pub returns : goal.returns
returns c = in_turn
