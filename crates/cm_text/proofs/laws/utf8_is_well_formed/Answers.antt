use Rattle.cm_text.proofs.WellFormedLemmas.{spelled_well, well_read}
use Rattle.cm_text.proofs.laws.utf8_is_well_formed.Goals as goal

pub returns-clause-spelled : goal.returns-clause-spelled
returns-clause-spelled c = spelled_well

pub returns-clause-read : goal.returns-clause-read
returns-clause-read c = well_read
