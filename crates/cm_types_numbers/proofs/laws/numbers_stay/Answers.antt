use Rattle.cm_types_numbers.proofs.Stays.{numbers_stay, funcs_stay}
use Rattle.cm_types_numbers.proofs.laws.numbers_stay.Goals as goal

pub returns-clause-types : goal.returns-clause-types
returns-clause-types c old new s ts ns e = numbers_stay old new e s ts ns

pub returns-clause-funcs : goal.returns-clause-funcs
returns-clause-funcs c old new s fs ns e = funcs_stay old new e s fs ns
