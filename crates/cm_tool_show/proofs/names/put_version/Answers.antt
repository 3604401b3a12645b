use Rattle.std.proofs.Common.{ap, rules, sym}
use Rattle.cm_types.specs.ExternNames.{version_suffix}
use Rattle.std.specs.Option.{option_copied}
use Rattle.cm_tool_show.proofs.NameLaws.{no_version_shown, version_shown}
use Rattle.cm_tool_show.proofs.ShownLaws.{answers, named, none_shown, stops, then}
use Rattle.cm_tool_show.proofs.names.put_version.Goals as goal

pub returns-in-None : goal.returns-in-None
returns-in-None c =
    named (ap (λ v. version_suffix (option_copied v)) (sym c.in-None.is)) (no_version_shown (none_shown c.args.page.now tt))

pub returns-in_err-put-in-Some : goal.returns-in_err-put-in-Some
returns-in_err-put-in-Some c =
    answers (search rules) (named (ap (λ v. version_suffix (option_copied v)) (sym c.in-Some.is)) (version_shown _ (stops _ c.in_err-put-in-Some.ensures)))

pub returns-in_ok-put-in-Some : goal.returns-in_ok-put-in-Some
returns-in_ok-put-in-Some c =
    named (ap (λ v. version_suffix (option_copied v)) (sym c.in-Some.is)) (version_shown _ (then c.in_ok-put-in-Some.ensures c.put-in-Some.ensures))
