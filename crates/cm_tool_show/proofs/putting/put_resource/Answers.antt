use Rattle.cm_tool_show.proofs.ShownLaws.{pieces_put}
use Rattle.cm_tool_show.proofs.putting.put_resource.Goals as goal

pub returns : goal.returns
returns c = pieces_put _ c.args.page.now c.put_resource.new.self c.put_resource.result c.put_resource.ensures.text c.put_resource.ensures.seen c.put_resource.ensures.over
