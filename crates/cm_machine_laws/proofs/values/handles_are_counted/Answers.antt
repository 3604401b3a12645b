use Rattle.cm_machine_laws.proofs.Few.{leaves_few}
use Rattle.cm_machine_laws.proofs.values.handles_are_counted.Goals as goal

pub returns : goal.returns
returns c = leaves_few
