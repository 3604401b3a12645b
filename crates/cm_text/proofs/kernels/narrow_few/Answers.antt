use Rattle.std.proofs.Common.{◌≡◌, ◌<◌, ◌+◌, ◌*◌, subst, sym, arith, get_or, set}
use Rattle.cm_text.specs.Utf16.{unit}
use Rattle.cm_text.proofs.RunLemmas.{units_none, units_end}
use Rattle.cm_text.proofs.StretchLemmas.{Narrows, narrows_one}
use Rattle.cm_text.proofs.kernels.narrow_few.Goals as goal

pub loop-run-preserved : goal.loop-run-preserved
loop-run-preserved c =
    let at = c.args.at + 2 * c.loop-run.run in
    let bytes = c.args.bytes.now in
    let small : unit (get_or bytes at 0) (get_or bytes (at + 1) 0) < 128 = omega (arith, c.unit-unit.ensures, c.if-unit-ge128.false) in
    let same : c.unit-unit.result ≡ get_or bytes at 0 = omega (arith, c.unit-unit.ensures) in (
      omega arith,
      subst (λ x. Narrows bytes c.args.at c.args.out.now c.args.to (set c.loop-run.out (c.args.to + c.loop-run.run) x) (c.loop-run.run + 1)) (sym same)
          (narrows_one bytes c.args.at c.args.out.now c.args.to c.loop-run.out c.loop-run.run c.loop-run.invariant.1 (omega arith) (omega arith) (omega arith) (omega arith)),
    )

pub returns-else-bytes-at-ge2-clause-run : goal.returns-else-bytes-at-ge2-clause-run
returns-else-bytes-at-ge2-clause-run c =
    λ less. units_end (c.args.at + 2 * c.loop-run.run) c.loop-run.run _ c.args.bytes.now (omega arith) c.loop-run.invariant.1.left

pub returns-then-unit-ge128-clause-run : goal.returns-then-unit-ge128-clause-run
returns-then-unit-ge128-clause-run c =
    λ less. units_none (c.args.at + 2 * c.loop-run.run) c.loop-run.run _ c.args.bytes.now (omega arith) (omega (arith, c.unit-unit.ensures)) c.loop-run.invariant.1.left
