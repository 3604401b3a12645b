use Rattle.cm_tool_show.proofs.ShownLaws.{chars_put}
use Rattle.cm_tool_show.proofs.putting.put.Goals as goal

pub returns : goal.returns
returns c = chars_put _ c.args.page.now c.put.new.self c.put.result c.put.ensures.text c.put.ensures.seen c.put.ensures.over
