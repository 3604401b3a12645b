use Rattle.cm_match_model.proofs.AnswerLaws.{never_both, one}
use Rattle.cm_match_model.proofs.laws.sets_have_one_answer.Goals as goal

pub returns-clause-never_both : goal.returns-clause-never_both
returns-clause-never_both c = never_both

pub returns-clause-one : goal.returns-clause-one
returns-clause-one c = one
