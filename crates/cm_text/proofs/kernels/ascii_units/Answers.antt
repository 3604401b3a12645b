use Rattle.std.proofs.Common.{◌+◌, ◌∙◌, ◌*◌, ap, sym, arith, drop}
use Rattle.std.specs.Char.{is_ascii}
use Rattle.std.specs.List.{prefix_len}
use Rattle.cm_text.specs.Utf16.{units}
use Rattle.cm_text.proofs.RunLemmas.{units_step, units_some, units_one, units_none, units_end}
use Rattle.cm_text.proofs.kernels.ascii_units.Goals as goal

pub loop-count-preserved : goal.loop-count-preserved
loop-count-preserved c =
    let k = c.loop-count.count in
    let xs = c.args.bytes.now in
    let on = units_step (2 * k) k c.units_in-run.result _ xs (omega arith) c.units_in-run.ensures c.if-run-lt-LANES.false c.loop-count.invariant.1 in
    (omega arith, ap (λ n. k + 16 + prefix_len is_ascii (units (drop n xs))) {x = 2 * (k + 16)} {y = 2 * k + 32} (omega arith) ∙ on)

pub returns-then-run-lt-LANES : goal.returns-then-run-lt-LANES
returns-then-run-lt-LANES c =
    ap (λ n. c.loop-count.count + n) (c.units_in-run.ensures ∙ sym (units_some (2 * c.loop-count.count) 16 c.args.bytes.now (omega arith) (omega arith))) ∙ c.loop-count.invariant.1

pub loop-count-2-preserved : goal.loop-count-2-preserved
loop-count-2-preserved c =
    let k = c.loop-count-2.count in
    let xs = c.args.bytes.now in
    let on = units_one (2 * k) k _ xs (omega arith) c.if-bytes-count-lt128.true c.if-bytes-count-eq0.true c.loop-count-2.invariant.1 in
    (omega arith, ap (λ n. k + 1 + prefix_len is_ascii (units (drop n xs))) {x = 2 * (k + 1)} {y = 2 * k + 2} (omega arith) ∙ on)

pub returns-else-bytes-count-lt128 : goal.returns-else-bytes-count-lt128
returns-else-bytes-count-lt128 c = units_none (2 * c.loop-count-2.count) c.loop-count-2.count _ c.args.bytes.now (omega arith) (omega arith) c.loop-count-2.invariant.1

pub returns-else-bytes-count-eq0 : goal.returns-else-bytes-count-eq0
returns-else-bytes-count-eq0 c = units_none (2 * c.loop-count-2.count) c.loop-count-2.count _ c.args.bytes.now (omega arith) (omega arith) c.loop-count-2.invariant.1

pub returns-after-loop-count-2 : goal.returns-after-loop-count-2
returns-after-loop-count-2 c = units_end (2 * c.loop-count-2.count) c.loop-count-2.count _ c.args.bytes.now (omega arith) c.loop-count-2.invariant.1
