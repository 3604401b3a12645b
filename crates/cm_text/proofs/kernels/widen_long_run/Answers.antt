use Rattle.std.proofs.Common.{arith}
use Rattle.cm_text.proofs.StretchLemmas.{widen_more, widens_on, widens_one}
use Rattle.cm_text.proofs.kernels.widen_long_run.Goals as goal

pub returns-then-more-lt-LANES-clause-written : goal.returns-then-more-lt-LANES-clause-written
returns-then-more-lt-LANES-clause-written c =
    widen_more c.args.at c.loop-run.run c.args.to c.widen_in-more.result c.args.bytes.now c.args.out.now c.loop-run.out c.widen_in-more.new.out
    (omega arith) (omega arith) c.loop-run.invariant.written c.widen_in-more.ensures.written

pub loop-run-preserved : goal.loop-run-preserved
loop-run-preserved c =
    widens_on c.args.bytes.now c.args.at c.args.out.now c.args.to c.loop-run.out c.loop-run.run c.widen_in-more.new.out c.widen_in-more.result
    c.loop-run.invariant (omega arith) (omega arith) c.widen_in-more.ensures.run c.if-more-lt-LANES.false c.widen_in-more.ensures.written

pub loop-run-2-preserved : goal.loop-run-2-preserved
loop-run-2-preserved c =
    widens_one c.args.bytes.now c.args.at c.args.out.now c.args.to c.loop-run-2.out c.loop-run-2.run
    c.loop-run-2.invariant c.loop-run-2-test.true c.if-bytes-at-lt128.true (omega arith)
