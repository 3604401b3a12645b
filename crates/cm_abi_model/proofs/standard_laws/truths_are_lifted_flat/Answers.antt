use Rattle.cm_abi_model.proofs.PassedLaws.{other_pass, other_passed, zero_pass, zero_passed}
use Rattle.cm_abi_model.proofs.standard_laws.truths_are_lifted_flat.Goals as goal

pub returns-clause-zero_is_false : goal.returns-clause-zero_is_false
returns-clause-zero_is_false c = zero_passed

pub returns-clause-others_are_true : goal.returns-clause-others_are_true
returns-clause-others_are_true c = other_passed

pub returns-clause-false_only : goal.returns-clause-false_only
returns-clause-false_only c = zero_pass

pub returns-clause-true_only : goal.returns-clause-true_only
returns-clause-true_only c = other_pass
