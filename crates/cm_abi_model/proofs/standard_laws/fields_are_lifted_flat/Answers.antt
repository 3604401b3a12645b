use Rattle.cm_abi_model.proofs.PassedLaws.{fields_pass, fields_passed, fixed_pass, fixed_passed, there_are_first}
use Rattle.cm_abi_model.proofs.standard_laws.fields_are_lifted_flat.Goals as goal

pub returns-clause-there : goal.returns-clause-there
returns-clause-there c = there_are_first

pub returns-clause-fields : goal.returns-clause-fields
returns-clause-fields c = fields_passed

pub returns-clause-fields_only : goal.returns-clause-fields_only
returns-clause-fields_only c = fields_pass

pub returns-clause-fixed : goal.returns-clause-fixed
returns-clause-fixed c = fixed_passed

pub returns-clause-fixed_only : goal.returns-clause-fixed_only
returns-clause-fixed_only c = fixed_pass
