use Rattle.cm_match_model.proofs.LinkLaws.{name_exports}
use Rattle.cm_match_model.proofs.laws.links_name_exports.Goals as goal

pub returns : goal.returns
returns c = name_exports
