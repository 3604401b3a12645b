use Rattle.cm_validate_types.proofs.ScopeLaws.{items_stay, items_there}
use Rattle.cm_validate_types.proofs.laws.items_stay.Goals as goal

pub returns-clause-items : goal.returns-clause-items
returns-clause-items c = items_stay

pub returns-clause-there : goal.returns-clause-there
returns-clause-there c = items_there
