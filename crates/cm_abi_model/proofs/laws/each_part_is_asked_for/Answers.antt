use Rattle.cm_abi_model.proofs.AskedFor.{asked, some_asked, tuple_asked}
use Rattle.cm_abi_model.proofs.laws.each_part_is_asked_for.Goals as goal

pub returns-clause-none : goal.returns-clause-none
returns-clause-none c = asked

pub returns-clause-tuple : goal.returns-clause-tuple
returns-clause-tuple c = tuple_asked

pub returns-clause-each : goal.returns-clause-each
returns-clause-each c = some_asked
