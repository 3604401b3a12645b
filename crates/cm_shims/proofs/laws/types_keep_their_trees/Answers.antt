use Rattle.cm_shims.proofs.MeaningLaws.{func_stands, value_stands}
use Rattle.cm_shims.proofs.laws.types_keep_their_trees.Goals as goal

pub returns-clause-values : goal.returns-clause-values
returns-clause-values c = value_stands

pub returns-clause-funcs : goal.returns-clause-funcs
returns-clause-funcs c = func_stands
