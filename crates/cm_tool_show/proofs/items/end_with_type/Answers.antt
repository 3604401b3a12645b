use Rattle.std.proofs.Common.{rules}
use Rattle.cm_tool_show.proofs.ShownLaws.{answers, stops, then}
use Rattle.cm_tool_show.proofs.items.end_with_type.Goals as goal

pub returns-in_err-add_type : goal.returns-in_err-add_type
returns-in_err-add_type c =
    answers (search rules) (stops _ c.in_err-add_type.ensures)

pub returns : goal.returns
returns c =
    then c.in_ok-add_type.ensures c.put.ensures
