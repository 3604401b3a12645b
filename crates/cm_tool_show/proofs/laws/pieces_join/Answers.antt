use Rattle.cm_tool_show.proofs.PageLaws.{text_append, seen_append}
use Rattle.cm_tool_show.proofs.laws.pieces_join.Goals as goal

pub returns-clause-text : goal.returns-clause-text
returns-clause-text c = text_append

pub returns-clause-seen : goal.returns-clause-seen
returns-clause-seen c = seen_append
