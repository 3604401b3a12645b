use Rattle.std.proofs.Common.{refl}
use Rattle.cm_abi_model.proofs.TruthLaws.{false_stored, true_stored}
use Rattle.cm_abi_model.proofs.standard_laws.truths_are_stored.Goals as goal

pub returns-clause-stored_true : goal.returns-clause-stored_true
returns-clause-stored_true c = true_stored

pub returns-clause-stored_false : goal.returns-clause-stored_false
returns-clause-stored_false c = false_stored

pub returns-clause-passed_true : goal.returns-clause-passed_true
returns-clause-passed_true c = λ g s k h. refl

pub returns-clause-passed_false : goal.returns-clause-passed_false
returns-clause-passed_false c = λ g s k h. refl
