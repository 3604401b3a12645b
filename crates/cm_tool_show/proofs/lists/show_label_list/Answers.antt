use Rattle.std.proofs.Common.{rules}
use Rattle.cm_tool_show.proofs.ShownLaws.{answers}
use Rattle.cm_tool_show.specs.ShownTypes.{label_pieces}
use Rattle.cm_tool_show.proofs.ListLaws.{labels_shown, labels_stop, member_shown}
use Rattle.cm_tool_show.proofs.lists.show_label_list.Goals as goal

pub loop-index-preserved : goal.loop-index-preserved
loop-index-preserved c = member_shown label_pieces c.args.labels.now c.loop-index.index c.index-labels-index.result c.args.page.now c.loop-index.page c.show_label.new.page tt (search rules) (search rules) c.in_ok-show_label.ensures c.loop-index.invariant

pub returns-in_err-show_label : goal.returns-in_err-show_label
returns-in_err-show_label c = answers (search rules) (labels_stop c.args.labels.now c.loop-index.index c.index-labels-index.result c.args.page.now c.loop-index.page c.show_label.new.page _ (search rules) (search rules) c.in_err-show_label.ensures c.loop-index.invariant)

pub returns : goal.returns
returns c = labels_shown c.args.labels.now c.loop-index.index c.args.page.now c.loop-index.page tt (search rules) c.loop-index.invariant
