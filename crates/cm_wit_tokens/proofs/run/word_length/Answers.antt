use Rattle.std.proofs.Common.{sym, ◌∙◌, arith}
use Rattle.cm_wit_tokens.specs.declared.run.Run.TheVariants as run
use Rattle.cm_wit_tokens.proofs.RunLaws.{byte_goes, byte_stops, run_at_end, run_within}
use Rattle.cm_wit_tokens.proofs.run.word_length.Goals as goal

pub loop-index-preserved : goal.loop-index-preserved
loop-index-preserved c = c.loop-index.invariant ∙ byte_goes run.Word c.args.text.now c.loop-index.index (omega (arith, c.loop-index-test.true)) (sym c.is_in_word.ensures ∙ c.if-not-is_in_word.false)

pub returns-then-not-is_in_word : goal.returns-then-not-is_in_word
returns-then-not-is_in_word c = sym (c.loop-index.invariant ∙ byte_stops run.Word c.args.text.now c.loop-index.index (omega (arith, c.loop-index-test.true)) (sym c.is_in_word.ensures ∙ c.if-not-is_in_word.true))

pub returns : goal.returns
returns c = omega (arith, c.loop-index.invariant, c.loop-index-test.false, run_at_end run.Word c.args.text.now c.loop-index.index (omega (arith, c.loop-index-test.false)), run_within run.Word c.args.text.now)
