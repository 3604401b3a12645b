use Rattle.std.proofs.Common.{ap, sym, ◌∙◌, map-id}
use Rattle.std.specs.List.{list_all}
use Rattle.std.proofs.lemmas.Iterator.{YieldsList-from_chars}
use Rattle.std.proofs.lemmas.Iterator.Consumers.{YieldsList-end}
use Rattle.cm_hux_values.specs.Texts.{is_textual}
use Rattle.cm_hux_values.proofs.TextLaws.{one_more}
use Rattle.cm_hux_values.proofs.bytes.are_textual.Goals as goal

pub loop-c-preserved : goal.loop-c-preserved
loop-c-preserved c = one_more is_textual c.loop-c.yielded c.in-Some.c c.loop-c.all c.is_textual.result c.both-all.result c.loop-c.invariant c.is_textual.ensures c.both-all.ensures

pub returns : goal.returns
returns c =
    let end = YieldsList-end (YieldsList-from_chars c.args.text.now c.utf8.text cc) c.loop-c.yielded _ c.loop-c.yielded_by _ _ c.in-None.is c.next.ensures.steps in
    c.loop-c.invariant ∙ ap (list_all is_textual) (sym (map-id c.loop-c.yielded) ∙ end.0)
