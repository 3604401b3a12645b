use Rattle.std.proofs.Common.{arith}
use Rattle.cm_wit_names.proofs.UnknownLaws.{unknown_here, no_unknown_next, unknown_nowhere}
use Rattle.cm_wit_names.proofs.LeastLaws.{item_at}
use Rattle.cm_wit_names.proofs.names.Names.first_unknown.Goals as goal

pub returns-then-is_unknown : goal.returns-then-is_unknown
returns-then-is_unknown c = unknown_here c.args.self.now.mentions.items c.loop-index.index c.mention-item.result c.is_unknown.result (omega arith) (item_at c.args.self.now.mentions.items c.deref-mention-items.result.now c.loop-index.index c.mention-item.result c.mention-item.is c.deref-mention-items.ensures.value) c.if-is_unknown.true c.is_unknown.ensures c.loop-index.invariant

pub loop-index-preserved : goal.loop-index-preserved
loop-index-preserved c = no_unknown_next c.args.self.now.mentions.items c.loop-index.index c.mention-item.result c.is_unknown.result (omega arith) (item_at c.args.self.now.mentions.items c.deref-mention-items.result.now c.loop-index.index c.mention-item.result c.mention-item.is c.deref-mention-items.ensures.value) c.if-is_unknown.false c.is_unknown.ensures c.loop-index.invariant

pub returns : goal.returns
returns c = unknown_nowhere c.args.self.now.mentions.items c.loop-index.index (omega arith) c.loop-index.invariant
