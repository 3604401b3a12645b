use Rattle.std.proofs.Common.{◌<◌, ◌∙◌, length, arith, sym}
use Rattle.cm_layout_placed.proofs.KindLaws.{slot_step, slots_so_far}
use Rattle.cm_layout_placed.proofs.kinds.join_kinds.Goals as goal
use Rattle.cm_layout.proofs.FlatLemmas.{joined_nil}

pub loop-at-init : goal.loop-at-init
loop-at-init c = sym (joined_nil c.args.kinds.now.items)

pub join_kind-requires : goal.join_kind-requires
join_kind-requires c =
    let lt : c.loop-at.at < length c.args.more.now = omega (arith, c.loop-at-test.true) in
    slots_so_far c.loop-at.at c.args.kinds.now.items c.args.more.now c.loop-at.kinds.items (omega (arith, lt)) c.loop-at.invariant

pub loop-at-preserved : goal.loop-at-preserved
loop-at-preserved c =
    let lt : c.loop-at.at < length c.args.more.now = omega (arith, c.loop-at-test.true) in
    c.in_ok-join_kind.ensures ∙ slot_step c.loop-at.at c.args.kinds.now.items c.args.more.now _ c.loop-at.kinds.items lt c.loop-at.invariant
