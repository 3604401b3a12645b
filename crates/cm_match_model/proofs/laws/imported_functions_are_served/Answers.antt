use Rattle.cm_match_model.proofs.ServedLaws.{served}
use Rattle.cm_match_model.proofs.laws.imported_functions_are_served.Goals as goal

pub returns : goal.returns
returns c = served
