use Rattle.std.proofs.Common.{ap, ◌∙◌}
use Rattle.cm_types.specs.ExternNames.{is_extern_name}
use Rattle.cm_types.proofs.ExternNameLaws.{name_is}
use Rattle.cm_types.proofs.extern_names.ExternName.as_str.Goals as goal

pub returns-clause-name : goal.returns-clause-name
returns-clause-name c = name_is _ (ap is_extern_name c.as_str.ensures ∙ c.self.invariant)
