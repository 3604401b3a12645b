use Rattle.cm_machine_laws.proofs.Takes.{there_denoted}
use Rattle.cm_machine_laws.proofs.valid_laws.what_is_met_is_the_values_handles.Goals as goal

pub returns : goal.returns
returns c = there_denoted
