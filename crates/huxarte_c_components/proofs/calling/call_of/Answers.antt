use Rattle.cm_validate_spaces.specs.Checked.{sections_in}
use Rattle.huxarte_c_components.proofs.FuncLaws.{call_found, call_refused}
use Rattle.huxarte_c_components.proofs.calling.call_of.Goals as goal

pub returns-in-Ok-clause-call : goal.returns-in-Ok-clause-call
returns-in-Ok-clause-call c =
    call_found c.args.bytes.now (sections_in c.in-Ok.component) c.args.call.now c.args.slots.now _ (c.in-Ok.ensures.held c.args.bytes.now (rw c.deref.ensures.value c.in_ok-files.ensures.read)) c.call_in.ensures.call

pub returns-in-Ok-clause-refused : goal.returns-in-Ok-clause-refused
returns-in-Ok-clause-refused c =
    call_refused c.args.bytes.now (sections_in c.in-Ok.component) c.args.call.now c.args.slots.now _ (c.in-Ok.ensures.held c.args.bytes.now (rw c.deref.ensures.value c.in_ok-files.ensures.read)) c.call_in.ensures.refused

pub returns-clause-refused : goal.returns-clause-refused
returns-clause-refused c = c.in-Err.ensures.refused c.args.bytes.now (rw c.deref.ensures.value c.in_ok-files.ensures.read)
