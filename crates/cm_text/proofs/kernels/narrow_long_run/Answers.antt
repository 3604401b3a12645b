use Rattle.std.proofs.Common.{◌+◌, ◌*◌, ◌∙◌, ap, sym, arith}
use Rattle.cm_text.proofs.RunLemmas.{units_some, units_none, units_end}
use Rattle.cm_text.proofs.StretchLemmas.{narrow_more, narrows_on, narrows_one}
use Rattle.cm_text.proofs.kernels.narrow_long_run.Goals as goal

pub returns-then-more-lt-LANES-clause-run : goal.returns-then-more-lt-LANES-clause-run
returns-then-more-lt-LANES-clause-run c =
    ap (λ n. c.loop-run.run + n)
    (c.narrow_in-more.ensures.run ∙ sym (units_some (c.args.at + 2 * c.loop-run.run) 16 c.args.bytes.now (omega arith) (omega arith))) ∙ c.loop-run.invariant.left

pub returns-then-more-lt-LANES-clause-written : goal.returns-then-more-lt-LANES-clause-written
returns-then-more-lt-LANES-clause-written c =
    narrow_more c.args.at c.loop-run.run c.args.to c.narrow_in-more.result c.args.bytes.now c.args.out.now c.loop-run.out c.narrow_in-more.new.out
    (omega arith) (omega arith) (omega arith) c.loop-run.invariant.written c.narrow_in-more.ensures.written

pub loop-run-preserved : goal.loop-run-preserved
loop-run-preserved c =
    narrows_on c.args.bytes.now c.args.at c.args.out.now c.args.to c.loop-run.out c.loop-run.run c.narrow_in-more.new.out c.narrow_in-more.result
    c.loop-run.invariant (omega arith) (omega arith) c.narrow_in-more.ensures.run c.if-more-lt-LANES.false c.narrow_in-more.ensures.written

pub loop-run-2-preserved : goal.loop-run-2-preserved
loop-run-2-preserved c =
    narrows_one c.args.bytes.now c.args.at c.args.out.now c.args.to c.loop-run-2.out c.loop-run-2.run
    c.loop-run-2.invariant (omega arith) c.if-bytes-at-lt128.true c.if-bytes-at-eq0.true (omega arith)

pub returns-else-bytes-at-lt128-clause-run : goal.returns-else-bytes-at-lt128-clause-run
returns-else-bytes-at-lt128-clause-run c =
    units_none (c.args.at + 2 * c.loop-run-2.run) c.loop-run-2.run _ c.args.bytes.now (omega arith) (omega arith) c.loop-run-2.invariant.left

pub returns-else-bytes-at-eq0-clause-run : goal.returns-else-bytes-at-eq0-clause-run
returns-else-bytes-at-eq0-clause-run c =
    units_none (c.args.at + 2 * c.loop-run-2.run) c.loop-run-2.run _ c.args.bytes.now (omega arith) (omega arith) c.loop-run-2.invariant.left

pub returns-after-loop-run-2-clause-run : goal.returns-after-loop-run-2-clause-run
returns-after-loop-run-2-clause-run c =
    units_end (c.args.at + 2 * c.loop-run-2.run) c.loop-run-2.run _ c.args.bytes.now (omega arith) c.loop-run-2.invariant.left
