use Rattle.cm_validate_canons.proofs.PassingLaws.{kinds_stay, params_stay, result_stays}
use Rattle.cm_validate_canons.proofs.laws.passing_stays.Goals as goal

pub returns-clause-kinds : goal.returns-clause-kinds
returns-clause-kinds c = kinds_stay

pub returns-clause-params : goal.returns-clause-params
returns-clause-params c s f = params_stay s c.what_stays.ensures.strings c.what_stays.ensures.lists f

pub returns-clause-answer : goal.returns-clause-answer
returns-clause-answer c s f = result_stays s c.what_stays.ensures.strings c.what_stays.ensures.lists f
