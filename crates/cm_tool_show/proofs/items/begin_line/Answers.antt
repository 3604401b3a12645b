use Rattle.std.proofs.Common.{rules}
use Rattle.cm_tool_show.proofs.ShownLaws.{answers, stops, then}
use Rattle.cm_tool_show.proofs.items.begin_line.Goals as goal

pub returns-in_err-put : goal.returns-in_err-put
returns-in_err-put c =
    answers (search rules) (stops _ c.in_err-put.ensures)

pub returns-in_err-put_name : goal.returns-in_err-put_name
returns-in_err-put_name c =
    answers (search rules) (then c.in_ok-put.ensures (stops _ c.in_err-put_name.ensures))

pub returns : goal.returns
returns c =
    then c.in_ok-put.ensures (then c.in_ok-put_name.ensures c.put-2.ensures)
