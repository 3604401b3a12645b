use Rattle.std.proofs.Common.{arith, nat_le, refl, slice_index_or}
use Rattle.cm_layout_placed.specs.Placed.{at_place, layouts_in}
use Rattle.cm_validate_canons.specs.Passing.{widths_at}
use Rattle.cm_validate_canons.proofs.PassingLaws.{ended, goes_on, seen_width, too_many}
use Rattle.cm_validate_canons.proofs.passing.pass_more.Goals as goal

pub loop-place-init : goal.loop-place-init
loop-place-init c = refl

pub returns-in-None : goal.returns-in-None
returns-in-None c =
    let ls = layouts_in c.args.layouts.now in
    let ps = c.args.places.now in
    too_many ls ps c.loop-place.place-index c.loop-place.room c.get.result.now.head.width (nat_le (widths_at ls ps) c.args.most)
    c.loop-place-test.true (seen_width c.get.result.now (at_place ls (slice_index_or ps c.loop-place.place-index 0)) c.get.ensures) c.in-None.ensures c.loop-place.invariant

pub loop-place-preserved : goal.loop-place-preserved
loop-place-preserved c =
    let ls = layouts_in c.args.layouts.now in
    let ps = c.args.places.now in
    goes_on ls ps c.loop-place.place-index c.loop-place.room c.get.result.now.head.width (nat_le (widths_at ls ps) c.args.most) c.in-Some.left
    c.loop-place-test.true (seen_width c.get.result.now (at_place ls (slice_index_or ps c.loop-place.place-index 0)) c.get.ensures) c.in-Some.ensures.0 c.in-Some.ensures.1 c.loop-place.invariant

pub returns : goal.returns
returns c =
    let ls = layouts_in c.args.layouts.now in
    let ps = c.args.places.now in
    ended ls ps c.loop-place.place-index c.loop-place.room 0 (nat_le (widths_at ls ps) c.args.most) (omega (arith, c.loop-place-test.false)) c.loop-place.invariant
