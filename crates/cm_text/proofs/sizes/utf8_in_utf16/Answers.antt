use Rattle.std.proofs.Common.{◌*◌, ◌∙◌, ap, arith, take_all, sum_by}
use Rattle.std.proofs.lemmas.List.Sums.{sum_by-take-le}
use Rattle.cm_text.specs.Sizes.{units_begun}
use Rattle.cm_text.proofs.CountLemmas.{begun_le, begun_is, sum_by-block, sum_by-block_le, sum_by-one_le}
use Rattle.cm_text.proofs.sizes.utf8_in_utf16.Goals as goal

pub overflow_add-units : goal.overflow_add-units
overflow_add-units c =
    let bytes = c.args.bytes.now in
    omega (arith, c.loop-at.invariant.1, c.units_begun_in-units.ensures, sum_by-block_le units_begun c.loop-at.at 16 bytes, begun_le bytes c.requires)

pub loop-at-preserved : goal.loop-at-preserved
loop-at-preserved c =
    (omega arith, omega (arith, c.loop-at.invariant.1, c.units_begun_in-units.ensures, sum_by-block units_begun c.loop-at.at 16 c.args.bytes.now))

pub overflow_add-units-in-loop-at-2 : goal.overflow_add-units-in-loop-at-2
overflow_add-units-in-loop-at-2 c =
    let bytes = c.args.bytes.now in
    omega (arith, c.loop-at-2.invariant.1, c.units_begun-units.ensures, sum_by-one_le units_begun c.loop-at-2.at bytes c.loop-at-2-test.true, begun_le bytes c.requires)

pub overflow_mul-result : goal.overflow_mul-result
overflow_mul-result c =
    let bytes = c.args.bytes.now in
    omega (arith, c.loop-at-2.invariant.1, sum_by-take-le units_begun bytes c.loop-at-2.at, begun_le bytes c.requires)

pub returns : goal.returns
returns c =
    let bytes = c.args.bytes.now in
    λ cs text. ap (λ n. 2 * n) (c.loop-at-2.invariant.1 ∙ ap (sum_by units_begun) (take_all c.loop-at-2.at bytes c.loop-at-2-test.false)) ∙ begun_is cs bytes text
