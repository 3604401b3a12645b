use Rattle.cm_abi_model.proofs.PassedLaws.{list_pass, list_passed, string_pass, string_passed}
use Rattle.cm_abi_model.proofs.standard_laws.strings_and_lists_are_lifted_flat.Goals as goal

pub returns-clause-string : goal.returns-clause-string
returns-clause-string c = string_passed

pub returns-clause-string_only : goal.returns-clause-string_only
returns-clause-string_only c = string_pass

pub returns-clause-list : goal.returns-clause-list
returns-clause-list c = list_passed

pub returns-clause-list_only : goal.returns-clause-list_only
returns-clause-list_only c = list_pass
