use Rattle.cm_machine_laws.proofs.Starts.{fresh_is_valid, begun_is_valid}
use Rattle.cm_machine_laws.proofs.valid_laws.machine_starts_valid.Goals as goal

pub returns-clause-fresh : goal.returns-clause-fresh
returns-clause-fresh c = fresh_is_valid

pub returns-clause-begun : goal.returns-clause-begun
returns-clause-begun c = begun_is_valid
