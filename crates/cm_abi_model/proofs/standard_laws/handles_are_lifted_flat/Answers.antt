use Rattle.cm_abi_model.proofs.PassedLaws.{borrow_pass, borrow_passed, own_pass, own_passed}
use Rattle.cm_abi_model.proofs.standard_laws.handles_are_lifted_flat.Goals as goal

pub returns-clause-own : goal.returns-clause-own
returns-clause-own c = own_passed

pub returns-clause-own_only : goal.returns-clause-own_only
returns-clause-own_only c = own_pass

pub returns-clause-borrow : goal.returns-clause-borrow
returns-clause-borrow c = borrow_passed

pub returns-clause-borrow_only : goal.returns-clause-borrow_only
returns-clause-borrow_only c = borrow_pass
