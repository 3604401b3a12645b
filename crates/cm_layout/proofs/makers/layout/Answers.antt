use Rattle.cm_types.specs.Funcs.{tree_type}
use Rattle.cm_layout.proofs.LawsOfLayouts.{all_laid, all_marked}
use Rattle.cm_layout.proofs.makers.layout.Goals as goal

pub returns-clause-laid : goal.returns-clause-laid
returns-clause-laid c = all_laid (tree_type c.args.ty.now) c.node_layout.result c.node_layout.ensures

pub returns-clause-marked : goal.returns-clause-marked
returns-clause-marked c = all_marked (tree_type c.args.ty.now) c.node_layout.result c.node_layout.ensures
