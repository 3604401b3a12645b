use Rattle.cm_match.specs.Linked.{set_in}
use Rattle.huxarte_c_components.proofs.LinkLaws.{on_ok}
use Rattle.huxarte_c_components.proofs.linking.plan_of.Goals as goal

pub returns-in-Ok-clause-linked : goal.returns-in-Ok-clause-linked
returns-in-Ok-clause-linked c = on_ok c.lines.result _ (set_in c.in-Ok.linked, c.in-Ok.ensures.set, c.in-Ok.ensures.linked)
