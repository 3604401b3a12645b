use Rattle.std.proofs.Common.{arith}
use Rattle.cm_wit_names.proofs.DistinctLaws.{seen_more, seen_all, seen_taken}
use Rattle.cm_wit_names.proofs.LeastLaws.{item_at}
use Rattle.cm_wit_names.proofs.names.Names.first_duplicate.Goals as goal

pub loop-index-preserved : goal.loop-index-preserved
loop-index-preserved c = seen_more c.args.self.now.mentions.items c.loop-index.index c.mention-item.result (omega arith) (item_at c.args.self.now.mentions.items c.deref-mention-items.result.now c.loop-index.index c.mention-item.result c.mention-item.is c.deref-mention-items.ensures.value) c.loop-index.seen c.note.new.seen (c.in_ok-note.ensures.noted c.if-not-branch.false) c.loop-index.invariant

pub returns : goal.returns
returns c = seen_all c.args.self.now.mentions.items c.loop-index.index c.loop-index.seen (omega arith) c.loop-index.invariant

pub returns-then-not-branch : goal.returns-then-not-branch
returns-then-not-branch c = seen_taken c.args.self.now.mentions.items c.loop-index.index c.mention-item.result (omega arith) (item_at c.args.self.now.mentions.items c.deref-mention-items.result.now c.loop-index.index c.mention-item.result c.mention-item.is c.deref-mention-items.ensures.value) c.loop-index.seen (c.in_ok-note.ensures.taken c.if-not-branch.true) c.loop-index.invariant
