use Rattle.cm_abi.proofs.OneReceived.{handles_told, one_received}
use Rattle.cm_abi.proofs.laws.one_value_is_received.Goals as goal

pub returns-clause-handles : goal.returns-clause-handles
returns-clause-handles c = handles_told c.what_is_received_is_denoted.ensures c.denotations_are_unique.ensures.denoted

pub returns-clause-value : goal.returns-clause-value
returns-clause-value c = one_received c.what_is_received_is_denoted.ensures c.denotations_are_unique.ensures.denoted
