use Rattle.cm_types_arena.proofs.UnmovedLaws.{func_unmoved, unmoved}
use Rattle.cm_types_arena.proofs.placed_laws.unmoved.Goals as goal

pub returns-clause-types : goal.returns-clause-types
returns-clause-types c = unmoved

pub returns-clause-funcs : goal.returns-clause-funcs
returns-clause-funcs c = func_unmoved
