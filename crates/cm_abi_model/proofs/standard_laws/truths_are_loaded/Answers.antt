use Rattle.cm_abi_model.proofs.TruthLaws.{false_shown, others_are_true, true_shown, zero_is_false}
use Rattle.cm_abi_model.proofs.standard_laws.truths_are_loaded.Goals as goal

pub returns-clause-zero_is_false : goal.returns-clause-zero_is_false
returns-clause-zero_is_false c = zero_is_false

pub returns-clause-others_are_true : goal.returns-clause-others_are_true
returns-clause-others_are_true c = others_are_true

pub returns-clause-false_only : goal.returns-clause-false_only
returns-clause-false_only c = false_shown

pub returns-clause-true_only : goal.returns-clause-true_only
returns-clause-true_only c = true_shown
