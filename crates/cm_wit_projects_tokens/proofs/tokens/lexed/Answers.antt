use Rattle.std.proofs.Common.{◌-◌, length, arith}
use Rattle.cm_wit_projects_tokens.specs.Tokens.{lexed}
use Rattle.cm_wit_projects_tokens.proofs.LexedLaws.{goes_to_end, goes_to_stop, goes_to_limit, goes_past_token, goes_on}
use Rattle.cm_wit_projects_tokens.proofs.tokens.lexed.Goals as goal

pub returns-in-End : goal.returns-in-End
returns-in-End c =
    let l = c.loop-turn in
    goes_to_end l._turn (length c.without_mark-all.result.now) l.tokens.items l.standing l.rest.now (lexed c.args.text.now) _ c.loop-turn-test.true l.invariant c.in_ok-of_text.ensures c.in-End.is

pub returns-in-Bad : goal.returns-in-Bad
returns-in-Bad c =
    let l = c.loop-turn in
    goes_to_stop l._turn (length c.without_mark-all.result.now) l.tokens.items l.standing l.rest.now (lexed c.args.text.now) _ c.loop-turn-test.true l.invariant c.in_ok-of_text.ensures c.in-Bad.is

pub returns : goal.returns
returns c =
    let l = c.loop-turn in
    goes_to_limit (length c.without_mark-all.result.now - l._turn) l.tokens.items l.standing l.rest.now (lexed c.args.text.now) (omega (arith, c.loop-turn-test.false)) l.invariant

pub loop-turn-preserved : goal.loop-turn-preserved
loop-turn-preserved c =
    let l = c.loop-turn in
    goes_on _ _ _ _ _ _ _ _ c.in_ok-push_back-in-Token.ensures.items c.behind-standing.ensures c.behind-rest-in-Token.ensures
    (goes_past_token l._turn (length c.without_mark-all.result.now) l.tokens.items l.standing l.rest.now (lexed c.args.text.now) _ c.in-Token.form c.in-Token.length c.loop-turn-test.true l.invariant c.in_ok-of_text.ensures c.in-Token.is)
