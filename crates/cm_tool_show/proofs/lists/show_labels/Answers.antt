use Rattle.std.proofs.Common.{rules}
use Rattle.cm_tool_show.proofs.ShownLaws.{answers, stops, then}
use Rattle.cm_tool_show.proofs.lists.show_labels.Goals as goal

pub returns-in_err-put : goal.returns-in_err-put
returns-in_err-put c = answers (search rules) (stops _ c.in_err-put.ensures)

pub returns-in_err-show_label_list : goal.returns-in_err-show_label_list
returns-in_err-show_label_list c = answers (search rules) (then c.in_ok-put.ensures (stops _ c.in_err-show_label_list.ensures))

pub returns : goal.returns
returns c = then c.in_ok-put.ensures (then c.in_ok-show_label_list.ensures c.put-2.ensures)
