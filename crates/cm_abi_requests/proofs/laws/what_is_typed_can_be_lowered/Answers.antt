use Rattle.cm_abi_requests.proofs.CountedParts.{typed_counted}
use Rattle.cm_abi_requests.proofs.PassedTypes.{typed_spelled}
use Rattle.cm_abi_requests.proofs.laws.what_is_typed_can_be_lowered.Goals as goal

pub returns-clause-spelled : goal.returns-clause-spelled
returns-clause-spelled c = typed_spelled

pub returns-clause-counted : goal.returns-clause-counted
returns-clause-counted c = typed_counted
