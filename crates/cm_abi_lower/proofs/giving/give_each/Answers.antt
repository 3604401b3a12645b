use Rattle.std.proofs.Common.{arith}
use Rattle.cm_abi_lower.proofs.GivingLemmas.{all_given, one_more, room_next}
use Rattle.cm_abi_lower.proofs.giving.give_each.Goals as goal

pub loop-leaf-preserved : goal.loop-leaf-preserved
loop-leaf-preserved c = (
  one_more c.args.to c.args.table.now.handles c.loop-leaf.table.handles c.give_one-number.new.table.handles c.args.leaves.now c.loop-leaf.numbers.items c.push_reserved.new.self.items c.give_one-number.result c.loop-leaf.leaf-index _
      c.loop-leaf-test.true c.loop-leaf.invariant.0 c.push_reserved.ensures.items c.give_one-number.ensures.number c.give_one-number.ensures.table c.give_one-number.ensures.here c.give_one-number.ensures.stay c.give_one-number.ensures.none_else c.give_one-number.ensures.borrows c.give_one-number.ensures.left c.give_one-number.ensures.sound c.give_one-number.type_inv,
  room_next c.args.to c.args.leaves.now c.loop-leaf.leaf-index c.loop-leaf.table.room c.give_one-number.new.table.room _ c.loop-leaf-test.true c.loop-leaf.invariant.1 c.give_one-number.ensures.room,
  omega (arith, c.loop-leaf.invariant.2, c.push_reserved.ensures.capacity),
)

pub returns : goal.returns
returns c = all_given c.args.to c.args.table.now.handles c.loop-leaf.table.handles c.args.leaves.now c.loop-leaf.numbers.items c.loop-leaf.leaf-index c.loop-leaf-test.false c.loop-leaf.invariant.0
