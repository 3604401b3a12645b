use Rattle.cm_abi_running.proofs.LookLemmas.{case_there, no_case}
use Rattle.cm_abi_running.proofs.looking.look_at_case.Goals as goal

pub returns-then-index-count : goal.returns-then-index-count
returns-then-index-count c = λ s rs. case_there c.args.index c.args.count s rs c.if-index-count.true

pub returns-else-index-count : goal.returns-else-index-count
returns-else-index-count c = λ s rs. no_case c.args.index c.args.count s c.if-index-count.false
