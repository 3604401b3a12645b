use Rattle.cm_abi_requests.proofs.FineLaws.{kept_fine}
use Rattle.cm_abi_requests.proofs.requesting_laws.answers_stay_fine.Goals as goal
use Rattle.cm_abi_model.proofs.AnsweringLaws.{still_fine}

pub returns-clause-kept : goal.returns-clause-kept
returns-clause-kept c = kept_fine

pub returns-clause-longer : goal.returns-clause-longer
returns-clause-longer c = still_fine
