use Rattle.cm_match_model.proofs.SetLaws.{items_alike, items_fail}
use Rattle.cm_match_model.proofs.alike_laws.items_are_alike.Goals as goal

pub returns-clause-alike : goal.returns-clause-alike
returns-clause-alike c = items_alike c.resources_are_counted.ensures.whole c.imports_bring_in_order.ensures.whole c.links_lead_earlier.ensures c.origins_are_unique.ensures.one

pub returns-clause-fails : goal.returns-clause-fails
returns-clause-fails c = items_fail c.resources_are_counted.ensures.whole c.imports_bring_in_order.ensures.whole c.links_lead_earlier.ensures c.origins_are_unique.ensures.one
