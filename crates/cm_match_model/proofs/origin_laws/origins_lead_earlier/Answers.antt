use Rattle.cm_match_model.proofs.OriginLaws.{earlier_origin, origin_there}
use Rattle.cm_match_model.proofs.origin_laws.origins_lead_earlier.Goals as goal

pub returns-clause-earlier : goal.returns-clause-earlier
returns-clause-earlier c = earlier_origin

pub returns-clause-there : goal.returns-clause-there
returns-clause-there c = origin_there
