use Rattle.cm_abi_model.proofs.FieldLaws.{fixed_only, fixed_read, list_only, list_read}
use Rattle.cm_abi_model.proofs.standard_laws.lists_are_pointers.Goals as goal

pub returns-clause-read : goal.returns-clause-read
returns-clause-read c = list_read

pub returns-clause-only : goal.returns-clause-only
returns-clause-only c = list_only

pub returns-clause-fixed_read : goal.returns-clause-fixed_read
returns-clause-fixed_read c = fixed_read

pub returns-clause-fixed_only : goal.returns-clause-fixed_only
returns-clause-fixed_only c = fixed_only
