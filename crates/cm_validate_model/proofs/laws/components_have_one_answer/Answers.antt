use Rattle.cm_validate_model.proofs.ValidLaws.{either, never_both, one_fault}
use Rattle.cm_validate_model.proofs.laws.components_have_one_answer.Goals as goal

pub returns-clause-either : goal.returns-clause-either
returns-clause-either c = either

pub returns-clause-never_both : goal.returns-clause-never_both
returns-clause-never_both c = never_both

pub returns-clause-one : goal.returns-clause-one
returns-clause-one c = one_fault
