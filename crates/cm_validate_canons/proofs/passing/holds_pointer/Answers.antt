use Rattle.cm_validate_canons.proofs.PassingLaws.{list_held, string_held}
use Rattle.cm_validate_canons.proofs.passing.holds_pointer.Goals as goal

pub returns-then-summary : goal.returns-then-summary
returns-then-summary c = λ t e. string_held c.args.summary t e c.if-summary.true

pub returns-else-summary : goal.returns-else-summary
returns-else-summary c = λ t e. list_held c.args.summary t e c.if-summary.false
