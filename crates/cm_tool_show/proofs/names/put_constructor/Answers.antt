use Rattle.std.proofs.Common.{rules}
use Rattle.cm_tool_show.proofs.NameLaws.{constructor_shown}
use Rattle.cm_tool_show.proofs.ShownLaws.{answers, stops, then}
use Rattle.cm_tool_show.proofs.names.put_constructor.Goals as goal

pub returns-in_err-put : goal.returns-in_err-put
returns-in_err-put c =
    answers (search rules) (constructor_shown _ (stops _ c.in_err-put.ensures))

pub returns : goal.returns
returns c =
    constructor_shown _ (then c.in_ok-put.ensures c.put-2.ensures)
