use Rattle.std.proofs.Common.{sym, ◌∙◌, arith}
use Rattle.cm_wit_projects_tokens.proofs.CommentLaws.{comment_ends, comment_goes, comment_none}
use Rattle.cm_wit_projects_tokens.proofs.comment.comment_length.Goals as goal

pub returns-in-None-clause-length : goal.returns-in-None-clause-length
returns-in-None-clause-length c = sym (c.loop-index.invariant.0 ∙ comment_ends c.loop-index.inside c.args.text.now c.loop-index.index (omega (arith, c.loop-index-test.true)) (sym c.in-None.ensures.place))

pub loop-index-preserved : goal.loop-index-preserved
loop-index-preserved c = (c.loop-index.invariant.0 ∙ comment_goes c.loop-index.inside c.in-Some.next c.args.text.now c.loop-index.index (omega (arith, c.loop-index-test.true)) (sym c.in-Some.ensures.place), omega (arith, c.in-Some.ensures.depth, c.loop-index.invariant.1))

pub returns-clause-length : goal.returns-clause-length
returns-clause-length c = sym (c.loop-index.invariant.0 ∙ comment_none c.loop-index.inside c.args.text.now c.loop-index.index (omega (arith, c.loop-index-test.false)))
