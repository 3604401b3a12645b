use Rattle.cm_machine_links.proofs.WrittenFacts.{written}
use Rattle.cm_machine_links.proofs.plan_laws.plans_are_written.Goals as goal

pub returns : goal.returns
returns c = λ components sees p valid plan.
    written components sees valid c.functions_come_from_items.ensures c.what_functions_name_is_there.ensures c.resources_are_as_defined.ensures c.links_lead_earlier.ensures c.origins_are_unique.ensures.one
    c.origins_follow_links.ensures.defined c.targets_are_written.ensures p plan
