use Rattle.cm_abi_model.specs.Requests.{call_parts}
use Rattle.cm_abi_requests.proofs.AskLaws.{asks_for, asks_untagged}
use Rattle.cm_abi_requests.proofs.requesting_laws.records_ask_for_parts.Goals as goal

pub returns-clause-parts : goal.returns-clause-parts
returns-clause-parts c = asks_for

pub returns-clause-untagged : goal.returns-clause-untagged
returns-clause-untagged c = asks_untagged

pub returns-clause-call : goal.returns-clause-call
returns-clause-call c = λ w target rs way types v places told. asks_for w target rs (call_parts way types v) places told
