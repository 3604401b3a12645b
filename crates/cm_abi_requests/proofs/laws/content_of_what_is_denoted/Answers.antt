use Rattle.cm_abi_requests.proofs.PassedContent.{passed_counts, stored_counts}
use Rattle.cm_abi_requests.proofs.laws.content_of_what_is_denoted.Goals as goal

pub returns-clause-tagged : goal.returns-clause-tagged
returns-clause-tagged c = λ w way types slots v h. (passed_counts w way types slots v h).0

pub returns-clause-stored : goal.returns-clause-stored
returns-clause-stored c = stored_counts
