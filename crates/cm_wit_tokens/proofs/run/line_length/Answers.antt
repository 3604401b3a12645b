use Rattle.std.proofs.Common.{sym, ◌∙◌, arith}
use Rattle.cm_wit_tokens.specs.declared.run.Run.TheVariants as run
use Rattle.cm_wit_tokens.proofs.RunLaws.{byte_goes, byte_stops, run_at_end, run_within}
use Rattle.cm_wit_tokens.proofs.run.line_length.Goals as goal

pub loop-index-preserved : goal.loop-index-preserved
loop-index-preserved c = c.loop-index.invariant ∙ byte_goes run.Line c.args.text.now c.loop-index.index (omega (arith, c.loop-index-test.true)) (sym c.is_in_line.ensures ∙ c.if-not-is_in_line.false)

pub returns-then-not-is_in_line : goal.returns-then-not-is_in_line
returns-then-not-is_in_line c = sym (c.loop-index.invariant ∙ byte_stops run.Line c.args.text.now c.loop-index.index (omega (arith, c.loop-index-test.true)) (sym c.is_in_line.ensures ∙ c.if-not-is_in_line.true))

pub returns : goal.returns
returns c = omega (arith, c.loop-index.invariant, c.loop-index-test.false, run_at_end run.Line c.args.text.now c.loop-index.index (omega (arith, c.loop-index-test.false)), run_within run.Line c.args.text.now)
