use Rattle.cm_match_model.proofs.LinkLaws.{lead_earlier}
use Rattle.cm_match_model.proofs.laws.links_lead_earlier.Goals as goal

pub returns : goal.returns
returns c = lead_earlier
