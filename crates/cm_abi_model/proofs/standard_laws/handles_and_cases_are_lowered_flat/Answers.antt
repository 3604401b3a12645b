use Rattle.cm_abi_model.proofs.LoweredLaws.{bare_lowered, bearing_lowered, borrow_lowered, own_lowered}
use Rattle.cm_abi_model.proofs.standard_laws.handles_and_cases_are_lowered_flat.Goals as goal

pub returns-clause-own : goal.returns-clause-own
returns-clause-own c = own_lowered

pub returns-clause-borrow : goal.returns-clause-borrow
returns-clause-borrow c = borrow_lowered

pub returns-clause-bare : goal.returns-clause-bare
returns-clause-bare c = bare_lowered

pub returns-clause-bearing : goal.returns-clause-bearing
returns-clause-bearing c = bearing_lowered
