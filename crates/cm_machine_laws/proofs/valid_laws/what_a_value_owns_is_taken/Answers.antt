use Rattle.cm_machine_laws.proofs.Takes.{lift_takes}
use Rattle.cm_machine_laws.proofs.valid_laws.what_a_value_owns_is_taken.Goals as goal

pub returns : goal.returns
returns c = lift_takes
