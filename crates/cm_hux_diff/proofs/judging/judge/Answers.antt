use Rattle.std.proofs.Common.{◌≡◌, ◌++◌, ◌∷◌, ◌∙◌, [], true, false, ap, rules, subst, sym}
use Rattle.cm_hux_diff.specs.Breaking.{AreBreaks}
use Rattle.cm_hux_diff.specs.Views.{entry_view, held_view, standing_of}
use Rattle.cm_hux_diff.proofs.Breaks.{breaks_more, breaks_serve, told_false, told_true}
use Rattle.cm_hux_diff.proofs.judging.judge.Goals as goal

pub returns-then-branch-clause-breaks : goal.returns-then-branch-clause-breaks
returns-then-branch-clause-breaks c = λ es are.
    let w = c.args.wanted.now in
    let o = c.args.offered.now in
    let is : c.in_ok-serves.field-0 ≡ true = search rules in
    breaks_serve (standing_of w) (standing_of o) es (entry_view w.types.now o.types.now c.args.entry) _ are
    (told_true (standing_of w) (standing_of o) (held_view w.types.now o.types.now c.args.entry.held) c.in_ok-serves.field-0 c.in_ok-serves.ensures.serves is)

pub returns-clause-breaks : goal.returns-clause-breaks
returns-clause-breaks c = λ es are.
    let w = c.args.wanted.now in
    let o = c.args.offered.now in
    let e = entry_view w.types.now o.types.now c.args.entry in
    let isnt : c.in_ok-serves.field-0 ≡ false = search rules in
    let pushed = c.in_ok-push.ensures.items ∙ ap (λ b. c.args.breaks.now.items ++ b ∷ []) (c.as_break.ensures w.types.now o.types.now) in
    subst (λ l. AreBreaks (standing_of w) (standing_of o) (es ++ e ∷ []) l) (sym pushed)
    (breaks_more (standing_of w) (standing_of o) es e c.args.breaks.now.items are
    (told_false (standing_of w) (standing_of o) (held_view w.types.now o.types.now c.args.entry.held) c.in_ok-serves.field-0 c.in_ok-serves.ensures.serves isnt))
