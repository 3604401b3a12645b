use Rattle.cm_validate_spaces.specs.Checked.{spaces_in}
use Rattle.cm_types.specs.Funcs.{func_of}
use Rattle.huxarte_c_components.proofs.FuncLaws.{no_call}
use Rattle.huxarte_c_components.proofs.calling.call_in.Goals as goal

pub returns-clause-refused : goal.returns-clause-refused
returns-clause-refused c =
    let s = spaces_in c.args.component.now in
    no_call s c.args.call.now c.args.slots.now c.in-Err.fault _ (c.in-Err.ensures s c.in_ok-spaces.ensures) c.told.ensures

pub returns-in-Ok-call_of_func-clause-call : goal.returns-in-Ok-call_of_func-clause-call
returns-in-Ok-call_of_func-clause-call c =
    let s = spaces_in c.args.component.now in
    (func_of c.in-Ok.func.now, c.in-Ok.ensures s c.in_ok-spaces.ensures, c.in-Ok-call_of_func.ensures.call)

pub returns-in-Ok-clause-refused : goal.returns-in-Ok-clause-refused
returns-in-Ok-clause-refused c =
    let s = spaces_in c.args.component.now in
    (func_of c.in-Ok.func.now, c.in-Ok.ensures s c.in_ok-spaces.ensures, c.in-Err-call_of_func.ensures.refused)
