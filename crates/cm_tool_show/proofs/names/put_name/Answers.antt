use Rattle.std.proofs.Common.{rules, sym}
use Rattle.cm_tool_show.proofs.NameLaws.{interface_shown, name_is}
use Rattle.cm_tool_show.proofs.ShownLaws.{answers, named, stops, then}
use Rattle.cm_tool_show.proofs.names.put_name.Goals as goal

pub returns-in-Label : goal.returns-in-Label
returns-in-Label c =
    named (name_is (sym c.in-Label.is)) c.put.ensures

pub returns-in-Method : goal.returns-in-Method
returns-in-Method c =
    named (name_is (sym c.in-Method.is)) c.put_member.ensures

pub returns-in-Static : goal.returns-in-Static
returns-in-Static c =
    named (name_is (sym c.in-Static.is)) c.put_member-in-Static.ensures

pub returns-in-Constructor : goal.returns-in-Constructor
returns-in-Constructor c =
    named (name_is (sym c.in-Constructor.is)) c.put_constructor.ensures

pub returns-in_err-put_package-in-Interface : goal.returns-in_err-put_package-in-Interface
returns-in_err-put_package-in-Interface c =
    answers (search rules) (named (name_is (sym c.in-Interface.is)) (interface_shown _ _ _ _ (stops _ c.in_err-put_package-in-Interface.ensures)))

pub returns-in_err-put-in-Interface : goal.returns-in_err-put-in-Interface
returns-in_err-put-in-Interface c =
    answers (search rules) (named (name_is (sym c.in-Interface.is)) (interface_shown _ _ _ _ (then c.in_ok-put_package-in-Interface.ensures (stops _ c.in_err-put-in-Interface.ensures))))

pub returns-in_ok-put-in-Interface : goal.returns-in_ok-put-in-Interface
returns-in_ok-put-in-Interface c =
    named (name_is (sym c.in-Interface.is)) (interface_shown _ _ _ _ (then c.in_ok-put_package-in-Interface.ensures (then c.in_ok-put-in-Interface.ensures c.put_version.ensures)))
