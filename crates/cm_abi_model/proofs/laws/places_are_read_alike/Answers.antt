use Rattle.cm_abi_model.proofs.ReceivedStays.{apart_later, placed_later}
use Rattle.cm_abi_model.proofs.laws.places_are_read_alike.Goals as goal

pub returns-clause-placed : goal.returns-clause-placed
returns-clause-placed c = placed_later

pub returns-clause-apart : goal.returns-clause-apart
returns-clause-apart c = apart_later
