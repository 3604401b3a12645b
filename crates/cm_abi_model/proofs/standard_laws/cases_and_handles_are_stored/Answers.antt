use Rattle.cm_abi_model.proofs.StoredLaws.{bare_stored, bearing_stored, borrow_stored, own_stored}
use Rattle.cm_abi_model.proofs.standard_laws.cases_and_handles_are_stored.Goals as goal

pub returns-clause-bare : goal.returns-clause-bare
returns-clause-bare c = bare_stored c.sizes_of_numbers.ensures.discriminants

pub returns-clause-bearing : goal.returns-clause-bearing
returns-clause-bearing c = bearing_stored c.sizes_of_numbers.ensures.discriminants

pub returns-clause-own : goal.returns-clause-own
returns-clause-own c = own_stored

pub returns-clause-borrow : goal.returns-clause-borrow
returns-clause-borrow c = borrow_stored
