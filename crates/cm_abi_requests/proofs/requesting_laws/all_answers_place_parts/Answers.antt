use Rattle.cm_abi_requests.proofs.StageSeen.{all_counted, all_placed}
use Rattle.cm_abi_requests.proofs.requesting_laws.all_answers_place_parts.Goals as goal

pub returns-clause-count : goal.returns-clause-count
returns-clause-count c = all_counted

pub returns-clause-each : goal.returns-clause-each
returns-clause-each c = all_placed
