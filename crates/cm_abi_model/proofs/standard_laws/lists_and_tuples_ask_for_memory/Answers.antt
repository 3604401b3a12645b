use Rattle.cm_abi_model.proofs.AskingLaws.{elements_ask, few_ask, tuple_asks}
use Rattle.cm_abi_model.proofs.standard_laws.lists_and_tuples_ask_for_memory.Goals as goal

pub returns-clause-elements : goal.returns-clause-elements
returns-clause-elements c = elements_ask

pub returns-clause-tuple : goal.returns-clause-tuple
returns-clause-tuple c = tuple_asks

pub returns-clause-flat : goal.returns-clause-flat
returns-clause-flat c = few_ask
