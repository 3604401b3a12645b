use Rattle.cm_types_arena.proofs.ReplacedLaws.{without, twice, func_twice}
use Rattle.cm_types_arena.proofs.laws.replacing.Goals as goal

pub returns-clause-without_handles : goal.returns-clause-without_handles
returns-clause-without_handles c = without

pub returns-clause-twice : goal.returns-clause-twice
returns-clause-twice c = twice

pub returns-clause-funcs_twice : goal.returns-clause-funcs_twice
returns-clause-funcs_twice c = func_twice
