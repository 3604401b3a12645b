use Rattle.cm_validate_entries.proofs.StayLaws.{own_fault, own_there}
use Rattle.cm_validate_entries.proofs.spaces.ComponentSpaces.own_resource_fault.Goals as goal

pub returns-in-Err-clause-making : goal.returns-in-Err-clause-making
returns-in-Err-clause-making c = λ types funcs s r t. own_fault types funcs s c.args.types.now t c.args.index c.in-Err.reason c.in-Err.ensures.broken

pub returns-in-Err-clause-reading : goal.returns-in-Err-clause-reading
returns-in-Err-clause-reading c = λ types funcs s r t. own_fault types funcs s c.args.types.now t c.args.index c.in-Err.reason c.in-Err.ensures.broken

pub returns-in-Ok-clause-making : goal.returns-in-Ok-clause-making
returns-in-Ok-clause-making c = λ types funcs s r t. own_there types funcs s c.args.types.now t c.args.index c.in-Ok.number c.own_fault.result c.in-Ok.ensures.there (c.own_fault.ensures types funcs s r)

pub returns-in-Ok-clause-reading : goal.returns-in-Ok-clause-reading
returns-in-Ok-clause-reading c = λ types funcs s r t. own_there types funcs s c.args.types.now t c.args.index c.in-Ok.number c.own_fault.result c.in-Ok.ensures.there (c.own_fault.ensures types funcs s r)
