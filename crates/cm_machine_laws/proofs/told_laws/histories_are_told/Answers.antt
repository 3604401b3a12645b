use Rattle.cm_machine_laws.proofs.Along.{told_along}
use Rattle.cm_machine_laws.proofs.told_laws.histories_are_told.Goals as goal

pub returns : goal.returns
returns c = told_along c.frames_are_told.ensures.told c.histories_are_valid.ensures
