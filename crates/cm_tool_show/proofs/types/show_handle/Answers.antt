use Rattle.std.proofs.Common.{rules}
use Rattle.cm_tool_show.proofs.ShownLaws.{answers, stops, then}
use Rattle.cm_tool_show.proofs.types.show_handle.Goals as goal

pub returns-in_err-put : goal.returns-in_err-put
returns-in_err-put c = answers (search rules) (stops _ c.in_err-put.ensures)

pub returns-in_err-put_resource : goal.returns-in_err-put_resource
returns-in_err-put_resource c = answers (search rules) (then c.in_ok-put.ensures (stops _ c.in_err-put_resource.ensures))

pub returns : goal.returns
returns c = then c.in_ok-put.ensures (then c.in_ok-put_resource.ensures c.put-2.ensures)
