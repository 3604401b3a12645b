use Rattle.cm_abi_running.proofs.FlatCheckLaws.{flat_looked, passed_looked}
use Rattle.cm_abi_running.proofs.laws.running_checks_is_lifting_flat.Goals as goal

pub returns-clause-value : goal.returns-clause-value
returns-clause-value c w target slots x k s = flat_looked w target slots x k s

pub returns-clause-call : goal.returns-clause-call
returns-clause-call c = passed_looked
