use Rattle.std.proofs.Common.{rules, sym, ◌∙◌}
use denote.Enum.Bare.{same_true}
use Rattle.cm_wit_tokens.specs.contracts.operator.Operator.{the_type}
use Rattle.cm_wit_tokens.proofs.operator.Operator.is.Goals as goal

pub returns-clause-same : goal.returns-clause-same
returns-clause-same c is = same_true the_type (search rules) _ _ (sym c.eq.ensures ∙ is)
