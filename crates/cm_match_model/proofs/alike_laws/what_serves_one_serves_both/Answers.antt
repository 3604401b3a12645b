use Rattle.cm_match_model.proofs.SetLaws.{fails_both, serves_both}
use Rattle.cm_match_model.proofs.alike_laws.what_serves_one_serves_both.Goals as goal

pub returns-clause-served : goal.returns-clause-served
returns-clause-served c = serves_both c.items_are_alike.ensures.alike

pub returns-clause-unserved : goal.returns-clause-unserved
returns-clause-unserved c = fails_both c.items_are_alike.ensures.alike
