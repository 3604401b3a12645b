use Rattle.std.proofs.Common.{arith}
use Rattle.cm_wit_names.proofs.UnknownLaws.{borrow_here, no_borrow_next, borrow_nowhere}
use Rattle.cm_wit_names.proofs.LeastLaws.{item_at}
use Rattle.cm_wit_names.proofs.names.Names.first_borrow.Goals as goal

pub returns-then-leads_to_borrow : goal.returns-then-leads_to_borrow
returns-then-leads_to_borrow c = borrow_here c.args.self.now.mentions.items c.loop-index.index c.mention-item.result c.leads_to_borrow.result (omega arith) (item_at c.args.self.now.mentions.items c.deref-mention-items.result.now c.loop-index.index c.mention-item.result c.mention-item.is c.deref-mention-items.ensures.value) c.if-leads_to_borrow.true c.leads_to_borrow.ensures c.loop-index.invariant

pub loop-index-preserved : goal.loop-index-preserved
loop-index-preserved c = no_borrow_next c.args.self.now.mentions.items c.loop-index.index c.mention-item.result c.leads_to_borrow.result (omega arith) (item_at c.args.self.now.mentions.items c.deref-mention-items.result.now c.loop-index.index c.mention-item.result c.mention-item.is c.deref-mention-items.ensures.value) c.if-leads_to_borrow.false c.leads_to_borrow.ensures c.loop-index.invariant

pub returns : goal.returns
returns c = borrow_nowhere c.args.self.now.mentions.items c.loop-index.index (omega arith) c.loop-index.invariant
