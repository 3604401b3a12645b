use Rattle.std.proofs.Common.{Some, ap, sym, ◌∙◌}
use Rattle.cm_wit_worlds.proofs.LabelLaws.{no_version, with_version}
use Rattle.cm_wit_worlds.proofs.texts.before_version.Goals as goal

pub returns-in_err-strip_suffix-in-Some : goal.returns-in_err-strip_suffix-in-Some
returns-in_err-strip_suffix-in-Some c =
    no_version c.args.version.now c.as_str.result.now c.args.text.now c.from_residual.result (c.in-Some.is ∙ ap Some (sym c.as_str.ensures.text)) c.from_residual.ensures c.in_err-strip_suffix-in-Some.ensures.cases

pub returns-in_ok-strip_suffix-in-Some : goal.returns-in_ok-strip_suffix-in-Some
returns-in_ok-strip_suffix-in-Some c =
    with_version c.args.version.now c.as_str.result.now c.args.text.now c.in_ok-strip_suffix-in-Some.field-0 c.strip_suffix-in-Some.result (c.in-Some.is ∙ ap Some (sym c.as_str.ensures.text)) c.in_ok-strip_suffix-in-Some.ensures.cases c.strip_suffix-in-Some.ensures.cases
