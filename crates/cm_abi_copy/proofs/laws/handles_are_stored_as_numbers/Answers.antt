use Rattle.cm_abi_copy.proofs.StoredLemmas.{stored_stays}
use Rattle.cm_abi_copy.proofs.ReadLemmas.{handles_stay, parts_stay}
use Rattle.cm_abi_copy.proofs.laws.handles_are_stored_as_numbers.Goals as goal

pub returns-clause-bytes : goal.returns-clause-bytes
returns-clause-bytes c = stored_stays

pub returns-clause-parts : goal.returns-clause-parts
returns-clause-parts c = parts_stay

pub returns-clause-handles : goal.returns-clause-handles
returns-clause-handles c = handles_stay
