use Rattle.cm_abi_requests.proofs.AskLaws.{are_askable}
use Rattle.cm_abi_requests.proofs.requesting_laws.small_parts_can_be_asked_for.Goals as goal

pub returns : goal.returns
returns c = are_askable
