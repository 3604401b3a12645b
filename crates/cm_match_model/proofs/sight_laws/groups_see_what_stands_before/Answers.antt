use Rattle.cm_match_model.proofs.SightLaws.{before_group}
use Rattle.cm_match_model.proofs.sight_laws.groups_see_what_stands_before.Goals as goal

pub returns : goal.returns
returns c = before_group
