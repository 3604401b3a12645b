use Rattle.std.proofs.Common.{rules, sym, subst, ◌∙◌, ℕ, List, false, arith}
use Rattle.cm_wit_tokens.specs.Tokens.{lexed}
use Rattle.cm_wit_tokens.proofs.LexedLaws.{Goes, goes_past_gap, goes_to_end, goes_to_stop}
use Rattle.cm_wit_tokens.proofs.lexed.Lexed.of_text.Goals as goal

pub returns-in-End : goal.returns-in-End
returns-in-End c = goes_to_end c.loop-behind_at.tokens.items c.loop-behind_at.behind_at c.loop-behind_at.rest.now (lexed c.args.text.now) c.loop-behind_at.invariant.1 (sym c.in_ok-of_text.ensures.front ∙ c.in-End.is)

pub returns-in-Bad : goal.returns-in-Bad
returns-in-Bad c = goes_to_stop c.loop-behind_at.tokens.items c.loop-behind_at.behind_at c.loop-behind_at.rest.now (lexed c.args.text.now) c.loop-behind_at.invariant.1 (sym c.in_ok-of_text.ensures.front ∙ c.in-Bad.is)

pub loop-behind_at-preserved-then-is_blank_next : goal.loop-behind_at-preserved-then-is_blank_next
loop-behind_at-preserved-then-is_blank_next c =
    let l = c.loop-behind_at in
    let all = lexed c.args.text.now in
    let is = c.if-is_blank_next.true in
    let goes = subst (λ (rest : List ℕ). Goes l.tokens.items false rest all) (sym c.split_at.ensures.back)
    (goes_past_gap l.tokens.items l.behind_at l.rest.now all 1 l.invariant.1 (c.is_blank_next.ensures.gap is) (omega arith, (c.is_blank_next.ensures.boundary is).0)) in
    (search rules, goes)
