use Rattle.std.proofs.Common.{ap, ◌∙◌}
use Rattle.cm_types.specs.Names.{is_label}
use Rattle.cm_types.proofs.Labels.{label_is}
use Rattle.cm_types.proofs.names.Label.as_str.Goals as goal

pub returns-clause-label : goal.returns-clause-label
returns-clause-label c = label_is _ (ap is_label c.as_str.ensures ∙ c.self.invariant)
