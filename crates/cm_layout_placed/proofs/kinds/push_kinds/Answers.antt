use Rattle.std.proofs.Common.{◌∙◌, length, sym, arith, ap}
use Rattle.cm_layout_placed.proofs.KindLaws.{take_enough}
use Rattle.cm_layout_placed.proofs.kinds.push_kinds.Goals as goal

pub returns-then-len-eq-MAX_FLAT_PARAMS : goal.returns-then-len-eq-MAX_FLAT_PARAMS
returns-then-len-eq-MAX_FLAT_PARAMS c =
    let xs = c.args.kinds.now.items in
    let ys = c.args.more.now in
    let i = c.loop-kind.kind-index in
    c.loop-kind.invariant.0
    ∙ sym (take_enough 16 i xs ys (omega (arith, ap length c.loop-kind.invariant.0, c.if-len-eq-MAX_FLAT_PARAMS.true, c.len.ensures)))
