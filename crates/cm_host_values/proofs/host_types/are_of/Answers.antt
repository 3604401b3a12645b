use Rattle.std.proofs.Common.{arith}
use Rattle.cm_host_values.proofs.TypedRows.{unequal}
use Rattle.cm_host_values.proofs.host_types.are_of.Goals as goal

pub returns-then-values-trees : goal.returns-then-values-trees
returns-then-values-trees c = ((λ e. absurd cc), (λ h. absurd (unequal c.args.trees.now c.args.values.now (λ e. omega arith) h)))
