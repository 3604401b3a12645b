use Rattle.std.proofs.Common.{◌<◌, ◌≤◌, ◌∙◌, map, length, arith, ap}
use Rattle.std.proofs.lemmas.List.{length-map, take_all}
use Rattle.cm_layout.specs.Layouts.{layout_of}
use Rattle.cm_layout.specs.Shapes.{layout_at}
use Rattle.cm_types_arena.specs.Places.{types_of}
use Rattle.cm_layout_placed.specs.Placed.{types_by}
use Rattle.cm_layout_placed.proofs.FirstLaws.{one_more}
use Rattle.cm_layout_placed.proofs.ReplacedLaws.{as_many_by}
use Rattle.cm_layout_placed.proofs.layouts.Layouts.of_replaced.Goals as goal

pub loop-place-preserved : goal.loop-place-preserved
loop-place-preserved g c =
    let types = types_by (g.R.Replacement.replacement c.args.by.now) (types_of c.args.types.now) in
    let n = c.loop-place.place in
    let ls = c.loop-place.by_place.items in
    let x = c.in_ok-layout.layout in
    let lt : n < length types = omega (arith, c.loop-place-test.true, c.len-place-end.ensures, as_many_by (g.R.Replacement.replacement c.args.by.now) (types_of c.args.types.now)) in
    ap (map layout_of) c.in_ok-push.ensures.items ∙ one_more ls x types n lt c.loop-place.invariant c.in_ok-layout.ensures

pub returns : goal.returns
returns g c =
    let types = types_by (g.R.Replacement.replacement c.args.by.now) (types_of c.args.types.now) in
    let le : length (map layout_at types) ≤ c.loop-place.place =
    omega (arith, length-map types layout_at, c.loop-place-test.false, c.len-place-end.ensures, as_many_by (g.R.Replacement.replacement c.args.by.now) (types_of c.args.types.now)) in
    c.loop-place.invariant ∙ take_all c.loop-place.place (map layout_at types) le
