use Rattle.cm_abi_model.proofs.PassedLaws.{labels_pass, labels_passed}
use Rattle.cm_abi_model.proofs.standard_laws.flags_are_lifted_flat.Goals as goal

pub returns-clause-flags_read : goal.returns-clause-flags_read
returns-clause-flags_read c = labels_passed

pub returns-clause-flags_only : goal.returns-clause-flags_only
returns-clause-flags_only c = labels_pass
