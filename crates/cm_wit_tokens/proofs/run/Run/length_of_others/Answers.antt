use Rattle.std.proofs.Common.{arith}
use Rattle.cm_wit_tokens.proofs.RunLaws.{run_at_end}
use Rattle.cm_wit_tokens.proofs.run.Run.length_of_others.Goals as goal

pub returns : goal.returns
returns c = omega (arith, c.loop-count.invariant, c.loop-count-test.false, c.loop-count.auto.count-end, run_at_end c.args.self c.args.text.now c.loop-count.count (omega (arith, c.loop-count-test.false)))
