use Rattle.cm_abi_model.proofs.FieldLaws.{borrow_only, borrow_read, own_only, own_read}
use Rattle.cm_abi_model.proofs.standard_laws.handles_are_indices.Goals as goal

pub returns-clause-own_read : goal.returns-clause-own_read
returns-clause-own_read c = own_read

pub returns-clause-own_only : goal.returns-clause-own_only
returns-clause-own_only c = own_only

pub returns-clause-borrow_read : goal.returns-clause-borrow_read
returns-clause-borrow_read c = borrow_read

pub returns-clause-borrow_only : goal.returns-clause-borrow_only
returns-clause-borrow_only c = borrow_only
