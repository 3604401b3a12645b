use Rattle.std.proofs.Common.{length, sym, ap, ◌∙◌}
use Rattle.cm_values.proofs.CharLaws.{more_are, none_is, one_is}
use Rattle.cm_values.proofs.leaves.only_char.Goals as goal

pub returns-in-None : goal.returns-in-None
returns-in-None c = sym (none_is c.args.text.now (ap length (sym c.chars-chars.ensures.rest) ∙ c.in-None.ensures.steps.0.0))

pub returns-in-None-next : goal.returns-in-None-next
returns-in-None-next c =
    sym (one_is c.args.text.now _ c.in-Some.scalar c.utf8.text (sym c.chars-chars.ensures.rest ∙ c.in-Some.ensures.steps.0) c.in-None-next.ensures.steps.0.0)

pub returns-in-Some-next : goal.returns-in-Some-next
returns-in-Some-next c =
    sym (more_are c.args.text.now _ _ c.in-Some.scalar _ c.utf8.text (sym c.chars-chars.ensures.rest ∙ c.in-Some.ensures.steps.0) c.in-Some-next.ensures.steps.0)
