use Rattle.cm_tool_show.proofs.ShownLaws.{chars_put}
use Rattle.cm_tool_show.proofs.putting.put_number.Goals as goal

pub returns : goal.returns
returns c = chars_put _ c.args.page.now c.put_number.new.self c.put_number.result c.put_number.ensures.text c.put_number.ensures.seen c.put_number.ensures.over
