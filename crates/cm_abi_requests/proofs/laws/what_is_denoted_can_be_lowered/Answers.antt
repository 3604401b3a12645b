use Rattle.cm_abi_requests.proofs.PassedContent.{passed_counts}
use Rattle.cm_abi_requests.proofs.PassedTypes.{denoted_counted, denoted_scalars, denoted_typed}
use Rattle.cm_abi_requests.proofs.laws.what_is_denoted_can_be_lowered.Goals as goal

pub returns-clause-typed : goal.returns-clause-typed
returns-clause-typed c = denoted_typed

pub returns-clause-counted : goal.returns-clause-counted
returns-clause-counted c = denoted_counted

pub returns-clause-spelled : goal.returns-clause-spelled
returns-clause-spelled c = denoted_scalars

pub returns-clause-tagged : goal.returns-clause-tagged
returns-clause-tagged c = λ w way types slots v h. (passed_counts w way types slots v h).1
