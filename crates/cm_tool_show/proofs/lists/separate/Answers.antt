use Rattle.cm_tool_show.proofs.ShownLaws.{none_shown, told}
use Rattle.cm_tool_show.proofs.PageLaws.{comma_none, comma_some}
use Rattle.cm_tool_show.proofs.lists.separate.Goals as goal

pub returns-then-index-eq0 : goal.returns-then-index-eq0
returns-then-index-eq0 c = told (comma_none c.args.index c.if-index-eq0.true) (none_shown c.args.page.now tt)

pub returns : goal.returns
returns c = told (comma_some c.args.index c.if-index-eq0.false) c.put.ensures
