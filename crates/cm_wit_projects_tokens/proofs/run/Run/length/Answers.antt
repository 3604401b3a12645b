use Rattle.std.proofs.Common.{arith}
use Rattle.cm_wit_projects_tokens.proofs.RunLaws.{run_at_end}
use Rattle.cm_wit_projects_tokens.proofs.run.Run.length.Goals as goal

pub returns-clause-length : goal.returns-clause-length
returns-clause-length c = omega (arith, c.loop-count.invariant, c.loop-count-test.false, c.loop-count.auto.count-end, run_at_end c.args.self c.args.text.now c.loop-count.count (omega (arith, c.loop-count-test.false)))
