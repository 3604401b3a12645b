use Rattle.std.proofs.Common.{sym, ◌∙◌}
use Rattle.cm_match_serving.proofs.GreatestLaws.{added_first, added_later, added_next}
use Rattle.cm_match_serving.proofs.greatest.Greatest.add.Goals as goal

pub returns-then-is_below : goal.returns-then-is_below
returns-then-is_below c = λ w.
    let g = c.args.self.now in
    rw (c.replace.ensures.value, c.replace.ensures.after)
    (added_first g.version c.args.version g.next g.component g.export c.args.component c.args.export w (sym c.is_below.ensures ∙ c.if-is_below.true))

pub returns-then-not-has_from : goal.returns-then-not-has_from
returns-then-not-has_from c = λ w.
    let g = c.args.self.now in
    added_next g.version c.args.version g.next g.component g.export c.args.component c.args.export w (sym c.is_below.ensures ∙ c.if-is_below.false) (sym c.has_from.ensures ∙ c.if-not-has_from.true)

pub returns-else-not-has_from : goal.returns-else-not-has_from
returns-else-not-has_from c = λ w.
    let g = c.args.self.now in
    added_later g.version c.args.version g.next g.component g.export c.args.component c.args.export w (sym c.is_below.ensures ∙ c.if-is_below.false) (sym c.has_from.ensures ∙ c.if-not-has_from.false)
