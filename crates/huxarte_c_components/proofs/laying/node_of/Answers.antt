use Rattle.cm_validate_spaces.specs.Checked.{sections_in}
use Rattle.huxarte_c_components.proofs.FuncLaws.{node_found, node_refused}
use Rattle.huxarte_c_components.proofs.laying.node_of.Goals as goal

pub returns-in-Ok-clause-found : goal.returns-in-Ok-clause-found
returns-in-Ok-clause-found c =
    node_found c.args.bytes.now (sections_in c.in-Ok.component) c.args.func c.args.way c.args.path.now _ (c.in-Ok.ensures.held c.args.bytes.now (rw c.deref.ensures.value c.in_ok-files.ensures.read)) c.node_in.ensures.found

pub returns-in-Ok-clause-refused : goal.returns-in-Ok-clause-refused
returns-in-Ok-clause-refused c =
    node_refused c.args.bytes.now (sections_in c.in-Ok.component) c.args.func c.args.way c.args.path.now _ (c.in-Ok.ensures.held c.args.bytes.now (rw c.deref.ensures.value c.in_ok-files.ensures.read)) c.node_in.ensures.refused

pub returns-clause-refused : goal.returns-clause-refused
returns-clause-refused c = c.in-Err.ensures.refused c.args.bytes.now (rw c.deref.ensures.value c.in_ok-files.ensures.read)
