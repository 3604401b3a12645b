use Rattle.cm_match_model.proofs.SetLaws.{resources_same}
use Rattle.cm_match_model.proofs.alike_laws.served_resources_are_the_same.Goals as goal

pub returns : goal.returns
returns c = resources_same c.resources_are_counted.ensures.whole c.imports_bring_in_order.ensures.whole c.links_lead_earlier.ensures c.origins_are_unique.ensures.one
