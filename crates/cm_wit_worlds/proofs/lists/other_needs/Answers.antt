use Rattle.std.proofs.Common.{get_or, refl}
use Rattle.cm_wit_graph.specs.DepthFirst.{needs_of}
use Rattle.cm_wit_worlds.proofs.ListLaws.{needs_next}
use Rattle.cm_wit_worlds.proofs.lists.other_needs.Goals as goal

pub loop-number-preserved : goal.loop-number-preserved
loop-number-preserved c = needs_next (needs_of c.args.needs.now) c.args.numbers.now c.in_ok-set.set.keys c.row_of.result.now c.loop-number.number-index c.loop-number.out.items c.add_others.new.out.items (get_or c.args.numbers.now c.loop-number.number-index 0) c.loop-number-test.true refl c.in_ok-set.ensures c.row_of.ensures c.in_ok-add_others.ensures c.loop-number.invariant
