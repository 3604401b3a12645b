use Rattle.cm_validate_entries.proofs.StayLaws.{drop_fault, drop_there}
use Rattle.cm_validate_entries.proofs.resources.resource_fault.Goals as goal

pub returns-in-Err : goal.returns-in-Err
returns-in-Err c = λ types funcs s t. drop_fault types funcs s c.args.types.now t c.args.index c.in-Err.reason c.in-Err.ensures.broken

pub returns-in-Ok : goal.returns-in-Ok
returns-in-Ok c = λ types funcs s t. drop_there types funcs s c.args.types.now t c.args.index c.in-Ok.field-0 c.in-Ok.ensures.there
