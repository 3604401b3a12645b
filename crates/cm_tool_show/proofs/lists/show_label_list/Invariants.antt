use Rattle.cm_tool_show.specs.ShownTypes.{label_pieces}
use Rattle.cm_tool_show.proofs.PageLaws.{Adds}
use Rattle.cm_tool_show.proofs.ListLaws.{member}
use Rattle.cm_tool_show.proofs.lists.show_label_list.Given as goal

abbrev pub invariant-loop-index : goal.invariant-loop-index
invariant-loop-index l = Adds (member label_pieces) l.labels l.index l.fn.page l.page
