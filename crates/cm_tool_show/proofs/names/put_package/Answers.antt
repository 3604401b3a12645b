use Rattle.std.proofs.Common.{rules}
use Rattle.cm_tool_show.proofs.NameLaws.{package_shown}
use Rattle.cm_tool_show.proofs.ShownLaws.{answers, stops, then}
use Rattle.cm_tool_show.proofs.names.put_package.Goals as goal

pub returns-in_err-put : goal.returns-in_err-put
returns-in_err-put c =
    answers (search rules) (package_shown _ _ (stops _ c.in_err-put.ensures))

pub returns-in_err-put-2 : goal.returns-in_err-put-2
returns-in_err-put-2 c =
    answers (search rules) (package_shown _ _ (then c.in_ok-put.ensures (stops _ c.in_err-put-2.ensures)))

pub returns-in_err-put-3 : goal.returns-in_err-put-3
returns-in_err-put-3 c =
    answers (search rules) (package_shown _ _ (then c.in_ok-put.ensures (then c.in_ok-put-2.ensures (stops _ c.in_err-put-3.ensures))))

pub returns : goal.returns
returns c =
    package_shown _ _ (then c.in_ok-put.ensures (then c.in_ok-put-2.ensures (then c.in_ok-put-3.ensures c.put-4.ensures)))
