use Rattle.std.proofs.Common.{◌∙◌}
use Rattle.cm_validate_spaces.specs.Checked.{sections_in}
use Rattle.huxarte_c_components.proofs.PlanLaws.{told_of}
use Rattle.huxarte_c_components.proofs.planning.plan_in.Goals as goal

pub returns-in-Ok-clause-told : goal.returns-in-Ok-clause-told
returns-in-Ok-clause-told c =
    told_of c.args.bytes.now (sections_in c.in-Ok.checked) _ _ _ _ _ _ (c.in-Ok.ensures.held c.args.bytes.now (rw c.deref.ensures.value c.in_ok-files.ensures.read)) (c.sections.ensures.sections ∙ c.component.ensures.component) c.in_ok-plan-in-Ok.ensures.told

pub returns-clause-refused : goal.returns-clause-refused
returns-clause-refused c = c.in-Err.ensures.refused c.args.bytes.now (rw c.deref.ensures.value c.in_ok-files.ensures.read)
