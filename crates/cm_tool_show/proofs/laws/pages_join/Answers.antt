use Rattle.cm_tool_show.proofs.JoinLaws.{wrote_none, wrote_more, wrote_over}
use Rattle.cm_tool_show.proofs.laws.pages_join.Goals as goal

pub returns-clause-none : goal.returns-clause-none
returns-clause-none c = wrote_none

pub returns-clause-more : goal.returns-clause-more
returns-clause-more c = wrote_more

pub returns-clause-over : goal.returns-clause-over
returns-clause-over c = wrote_over
