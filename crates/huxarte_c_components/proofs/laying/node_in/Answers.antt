use Rattle.cm_validate_spaces.specs.Checked.{spaces_in}
use Rattle.cm_types.specs.Funcs.{func_of}
use Rattle.huxarte_c_components.proofs.FuncLaws.{no_node, node_in_found, node_in_refused}
use Rattle.huxarte_c_components.proofs.laying.node_in.Goals as goal

pub returns-in-Ok-clause-found : goal.returns-in-Ok-clause-found
returns-in-Ok-clause-found c =
    let s = spaces_in c.args.component.now in
    node_in_found s (func_of c.in-Ok.func.now) c.args.func c.args.way c.args.path.now _ (c.in-Ok.ensures s c.in_ok-spaces.ensures) c.node_from.ensures.found

pub returns-in-Ok-clause-refused : goal.returns-in-Ok-clause-refused
returns-in-Ok-clause-refused c =
    let s = spaces_in c.args.component.now in
    node_in_refused s (func_of c.in-Ok.func.now) c.args.func c.args.way c.args.path.now _ (c.in-Ok.ensures s c.in_ok-spaces.ensures) c.node_from.ensures.refused

pub returns-clause-refused : goal.returns-clause-refused
returns-clause-refused c =
    let s = spaces_in c.args.component.now in
    no_node s c.args.func c.args.way c.args.path.now c.in-Err.fault _ (c.in-Err.ensures s c.in_ok-spaces.ensures) c.told.ensures
