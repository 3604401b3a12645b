use Rattle.cm_wit_meanings.proofs.PartsAddedLaws.{def_within}
use Rattle.cm_wit_meanings.proofs.definitions.push_def.Goals as goal

pub returns-clause-there : goal.returns-clause-there
returns-clause-there c = c.define.ensures.there

pub returns-clause-meaning : goal.returns-clause-meaning
returns-clause-meaning c = c.define.ensures.meaning

pub returns-clause-fault : goal.returns-clause-fault
returns-clause-fault c = c.define.ensures.fault

pub returns-clause-grown : goal.returns-clause-grown
returns-clause-grown c = c.define.ensures.grown

pub returns-clause-funcs : goal.returns-clause-funcs
returns-clause-funcs c = c.define.ensures.funcs

pub returns-clause-within : goal.returns-clause-within
returns-clause-within c = def_within c.define.new.types c.define.result c.define.ensures.there
