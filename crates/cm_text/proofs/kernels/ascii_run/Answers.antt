use Rattle.std.proofs.Common.{arith}
use Rattle.cm_text.proofs.RunLemmas.{bytes_step}
use Rattle.cm_text.proofs.kernels.ascii_run.Goals as goal

pub loop-at-preserved : goal.loop-at-preserved
loop-at-preserved c =
    (omega arith, bytes_step c.loop-at.at c.loop-at.at c.run_in-run.result _ c.args.bytes.now (omega arith) c.run_in-run.ensures c.if-run-lt-LANES.false c.loop-at.invariant.1)
