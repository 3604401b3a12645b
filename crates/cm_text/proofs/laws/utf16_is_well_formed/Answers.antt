use Rattle.cm_text.proofs.WellFormedLemmas.{spelled_well_16, well_read_16}
use Rattle.cm_text.proofs.laws.utf16_is_well_formed.Goals as goal

pub returns-clause-spelled : goal.returns-clause-spelled
returns-clause-spelled c = spelled_well_16

pub returns-clause-read : goal.returns-clause-read
returns-clause-read c = well_read_16
