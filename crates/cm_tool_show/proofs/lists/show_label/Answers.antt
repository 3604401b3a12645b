use Rattle.std.proofs.Common.{◌≡◌, rules}
use Rattle.cm_tool_show.proofs.ShownLaws.{answers, named, stops, then}
use Rattle.cm_tool_show.proofs.lists.show_label.Goals as goal

pub returns-in_err-separate : goal.returns-in_err-separate
returns-in_err-separate c = answers (search rules) (stops _ c.in_err-separate.ensures)

pub returns : goal.returns
returns c =
    let label : c.as_str.result.now ≡ c.args.label.now = search rules in
    then c.in_ok-separate.ensures (named label c.put.ensures)
