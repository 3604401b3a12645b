use Rattle.cm_abi_model.proofs.AskedStays.{asked_more, goes_on, none_asked}
use Rattle.cm_abi_model.proofs.laws.what_goes_on_stays.Goals as goal

pub returns-clause-none : goal.returns-clause-none
returns-clause-none c = none_asked

pub returns-clause-more : goal.returns-clause-more
returns-clause-more c = asked_more

pub returns-clause-goes : goal.returns-clause-goes
returns-clause-goes c = goes_on
