use Rattle.cm_match_model.proofs.OriginLaws.{exists, unique}
use Rattle.cm_match_model.proofs.origin_laws.origins_are_unique.Goals as goal

pub returns-clause-one : goal.returns-clause-one
returns-clause-one c = exists

pub returns-clause-no_other : goal.returns-clause-no_other
returns-clause-no_other c = unique
