use Rattle.std.proofs.Common.{◌≡◌, None, subst}
use Rattle.cm_binary_model.specs.Limits.{limit_fault}
use Rattle.cm_binary_model.proofs.FewItems.{few_items}
use Rattle.cm_binary_model.proofs.component.Component.sections.Goals as goal

pub returns-clause-few : goal.returns-clause-few
returns-clause-few c = few_items c.args.self.now (subst (λ s. limit_fault s ≡ None) c.self.view_is c.self.invariant.0)
