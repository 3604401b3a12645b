use Rattle.cm_types_arena.proofs.ReplacedLaws.{by_row, func_by_row}
use Rattle.cm_types_arena.proofs.laws.rows.Goals as goal

pub returns-clause-types : goal.returns-clause-types
returns-clause-types c = by_row

pub returns-clause-funcs : goal.returns-clause-funcs
returns-clause-funcs c = func_by_row
