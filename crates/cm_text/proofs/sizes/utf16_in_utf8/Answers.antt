use Rattle.std.proofs.Common.{◌+◌, ◌*◌, ◌∙◌, [], ◌∷◌, ap, arith, sum_by, take, get_or}
use Rattle.std.proofs.lemmas.List.Sums.{sum_by-append}
use Rattle.std.specs.Simd.Lanes.{chunk}
use Rattle.cm_text.specs.Sizes.{bytes_taken}
use Rattle.cm_text.specs.Utf16.{unit, units}
use Rattle.cm_text.proofs.CountLemmas.{taken_le, taken_is, bytes_taken_le, sum_by-cons}
use Rattle.cm_text.proofs.UnitLemmas.{units-take, units-take_one, units-take_all, length-units_front, length-units}
use Rattle.cm_text.proofs.sizes.utf16_in_utf8.Goals as goal

pub overflow_add-size : goal.overflow_add-size
overflow_add-size c =
    let k = c.loop-count.count in
    let xs = c.args.bytes.now in
    omega (
      arith,
      c.loop-count.invariant.1,
      c.bytes_taken_in-size.ensures,
      taken_le (units (take (2 * k) xs)),
      taken_le (units (chunk (2 * k) 32 xs)),
      length-units_front k xs c.loop-count.invariant.0,
      length-units (2 * k) 16 xs (omega arith),
    )

pub loop-count-preserved : goal.loop-count-preserved
loop-count-preserved c =
    let k = c.loop-count.count in
    let xs = c.args.bytes.now in (
      omega arith,
      omega (
        arith,
        c.loop-count.invariant.1,
        c.bytes_taken_in-size.ensures,
        ap (sum_by bytes_taken) (units-take k 16 xs (omega arith)),
        sum_by-append bytes_taken (units (take (2 * k) xs)) (units (chunk (2 * k) 32 xs)),
      ),
    )

pub overflow_add-size-in-loop-count-2 : goal.overflow_add-size-in-loop-count-2
overflow_add-size-in-loop-count-2 c =
    let k = c.loop-count-2.count in
    let xs = c.args.bytes.now in
    omega (arith, c.loop-count-2.invariant.1, taken_le (units (take (2 * k) xs)), length-units_front k xs c.loop-count-2.invariant.0, c.bytes_taken-size.ensures, bytes_taken_le c.unit.result)

pub loop-count-2-preserved : goal.loop-count-2-preserved
loop-count-2-preserved c =
    let k = c.loop-count-2.count in
    let xs = c.args.bytes.now in
    let u = unit (get_or xs (2 * k) 0) (get_or xs (2 * k + 1) 0) in (
      omega arith,
      omega (
        arith,
        c.loop-count-2.invariant.1,
        c.bytes_taken-size.ensures ∙ ap bytes_taken c.unit.ensures,
        ap (sum_by bytes_taken) (units-take_one k xs (omega arith)),
        sum_by-append bytes_taken (units (take (2 * k) xs)) (u ∷ []),
        sum_by-cons bytes_taken u [],
      ),
    )

pub returns : goal.returns
returns c =
    let k = c.loop-count-2.count in
    let xs = c.args.bytes.now in
    λ cs text. c.loop-count-2.invariant.1 ∙ ap (sum_by bytes_taken) (units-take_all k xs c.loop-count-2.invariant.0 (omega arith)) ∙ taken_is cs xs text
