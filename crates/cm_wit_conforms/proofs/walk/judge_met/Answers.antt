use Rattle.std.proofs.Common.{◌≡◌, ◌++◌, ◌∙◌, List, Some, None, ap, arith, append_assoc, drop, length, subst, take}
use Rattle.std.proofs.lemmas.List.{take-append-drop}
use Rattle.cm_types_arena.specs.Listed.{items_listed}
use Rattle.cm_wit_conforms.specs.Comparisons.{Entry}
use Rattle.cm_wit_conforms.specs.Views.{entry_of, other, own}
use Rattle.cm_wit_conforms.specs.Walks.{IsJudged, facing_entries}
use Rattle.cm_wit_conforms.proofs.JudgedLaws.{judged_end}
use Rattle.cm_wit_conforms.proofs.PlacedLaws.{entries_long}
use Rattle.cm_wit_conforms.proofs.TakenLaws.{entry_is, step_end, step_none, step_some}
use Rattle.cm_wit_conforms.proofs.walk.judge_met.Goals as goal
use Rattle.cm_wit_conforms.proofs.walk.judge_met.Goals.{in-Some+in_ok-add, in_default}

pub returns-then-not-judged : goal.returns-then-not-judged
returns-then-not-judged c = λ h w es k.
    let n = c.loop-number.number in
    let all = facing_entries h w c.args.facing in
    let whole : (es ++ take n all) ++ drop n all ≡ es ++ all = append_assoc es (take n all) (drop n all) ∙ ap (λ (l : List Entry). es ++ l) (take-append-drop n all) in
    subst (λ (l : List Entry). IsJudged h w l c.loop-number.judged) whole (judged_end h w (es ++ take n all) (drop n all) c.loop-number.judged c.if-not-judged.true (c.loop-number.invariant h w es k))

pub compared_at-requires : goal.compared_at-requires
compared_at-requires c = λ t u. c.at.ensures ∙ (c.requires t u).found c.loop-number.number

pub loop-number-preserved : goal.loop-number-preserved
loop-number-preserved c = λ h w es k.
    let n = c.loop-number.number in
    let all = facing_entries h w c.args.facing in
    let before = c.loop-number.invariant h w es k in
    let view = entry_of h w in
    let shown = c.compared_at.ensures h w in
    elim c.match-compared_at.branch [
      | in-Some+in_ok-add b ↦ step_some (IsJudged h w) es all n (view b.in-Some.each) c.match-compared_at.judged b.add.new.self (entry_is view c.compared_at.result (Some b.in-Some.each) _ shown b.in-Some.is) b.judged-is (b.in_ok-add.ensures h w _ before)
      | in_default b ↦ step_none (IsJudged h w) es all n c.match-compared_at.judged c.loop-number.judged (entry_is view c.compared_at.result None _ shown b.in_default.is) b.judged-is before
    ]

pub returns : goal.returns
returns c = λ h w es k.
    let f = c.args.facing in
    let mine = own f.list h w in
    let theirs = other f.list h w in
    let all = facing_entries h w f in
    let long : length all ≡ length (items_listed mine f.items) = entries_long mine theirs f.list f.place f.items f.others in
    step_end (IsJudged h w) es all c.loop-number.number c.loop-number.judged (omega (arith, long, c.len-number-end.ensures mine, c.loop-number-test.false)) (c.loop-number.invariant h w es k)
