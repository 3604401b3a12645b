use Rattle.cm_validate_model.proofs.TypeLaws.{type_ranged, func_ranged, type_stays}
use Rattle.cm_validate_model.proofs.ScopeLaws.{fresh_moved}
use Rattle.cm_validate_model.proofs.counted_laws.moves_of_what_is_counted.Goals as goal

pub returns-clause-types : goal.returns-clause-types
returns-clause-types c = type_ranged

pub returns-clause-funcs : goal.returns-clause-funcs
returns-clause-funcs c = func_ranged

pub returns-clause-stay : goal.returns-clause-stay
returns-clause-stay c = type_stays

pub returns-clause-fresh : goal.returns-clause-fresh
returns-clause-fresh c = fresh_moved
