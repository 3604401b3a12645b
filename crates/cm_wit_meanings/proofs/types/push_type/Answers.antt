use Rattle.cm_wit_meanings.proofs.AddedLaws.{all_within}
use Rattle.cm_wit_meanings.proofs.types.push_type.Goals as goal

pub returns-clause-there : goal.returns-clause-there
returns-clause-there c = c.push_text.ensures.there

pub returns-clause-meaning : goal.returns-clause-meaning
returns-clause-meaning c = c.push_text.ensures.meaning

pub returns-clause-within : goal.returns-clause-within
returns-clause-within c = all_within c.push_text.new.types c.push_text.result c.push_text.ensures.there

pub returns-clause-fault : goal.returns-clause-fault
returns-clause-fault c = c.push_text.ensures.fault

pub returns-clause-grown : goal.returns-clause-grown
returns-clause-grown c = c.push_text.ensures.grown

pub returns-clause-funcs : goal.returns-clause-funcs
returns-clause-funcs c = c.push_text.ensures.funcs
