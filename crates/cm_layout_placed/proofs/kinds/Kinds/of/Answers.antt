use Rattle.std.proofs.Common.{◌<◌, ◌∙◌, map, length, arith, ap}
use Rattle.cm_types_arena.specs.Places.{types_of}
use Rattle.cm_layout_placed.proofs.KindLaws.{one_more_kinds}
use Rattle.cm_layout_placed.proofs.kinds.Kinds.of.Goals as goal

pub loop-place-preserved : goal.loop-place-preserved
loop-place-preserved c =
    let types = types_of c.args.types.now in
    let lt : c.loop-place.place < length types = omega (arith, c.loop-place-test.true, c.len-place-end.ensures) in
    ap (map (λ v. v.items)) c.in_ok-push.ensures.items ∙ one_more_kinds c.loop-place.by_place.items c.in_ok-kinds.kinds types c.loop-place.place lt c.loop-place.invariant c.in_ok-kinds.ensures
