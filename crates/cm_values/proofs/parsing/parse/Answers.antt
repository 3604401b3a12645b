use Rattle.cm_types.specs.TypeTrees.{type_of}
use Rattle.cm_types.specs.ValueTrees.{value_of}
use Rattle.cm_values.proofs.WholeLaws.{accepted_from, complete_from}
use Rattle.cm_values.proofs.parsing.parse.Goals as goal

pub returns-clause-accepted : goal.returns-clause-accepted
returns-clause-accepted c = accepted_from value_of (type_of c.args.ty.now.root) c.args.text.now c.parse_exactly.result c.parse_exactly.ensures

pub returns-clause-complete : goal.returns-clause-complete
returns-clause-complete c = λ v s. complete_from value_of (type_of c.args.ty.now.root) c.args.text.now c.parse_exactly.result v c.parse_exactly.ensures s
