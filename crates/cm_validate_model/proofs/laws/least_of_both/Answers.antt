use Rattle.cm_validate_model.proofs.LeastLaws.{least_append}
use Rattle.cm_validate_model.proofs.laws.least_of_both.Goals as goal

pub returns : goal.returns
returns c = least_append
