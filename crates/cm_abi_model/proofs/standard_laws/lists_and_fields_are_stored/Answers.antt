use Rattle.cm_abi_model.proofs.StoredLaws.{fields_stored, fixed_stored, list_stored}
use Rattle.cm_abi_model.proofs.standard_laws.lists_and_fields_are_stored.Goals as goal

pub returns-clause-list : goal.returns-clause-list
returns-clause-list c = list_stored

pub returns-clause-fixed : goal.returns-clause-fixed
returns-clause-fixed c = fixed_stored

pub returns-clause-fields : goal.returns-clause-fields
returns-clause-fields c = fields_stored
