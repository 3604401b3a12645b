use Rattle.cm_bundle.proofs.ServedLaws.{arguments_serve}
use Rattle.cm_bundle.proofs.laws.arguments_serve_their_imports.Goals as goal

pub returns : goal.returns
returns c set = arguments_serve set (c.links_lead_earlier.ensures set)
