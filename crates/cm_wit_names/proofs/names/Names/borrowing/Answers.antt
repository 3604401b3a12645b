use Rattle.std.proofs.Common.{arith}
use Rattle.cm_wit_names.proofs.BorrowLaws.{marks_all, marks_more}
use Rattle.cm_wit_names.proofs.LeastLaws.{item_at}
use Rattle.cm_wit_names.proofs.names.Names.borrowing.Goals as goal

pub returns-clause-sound : goal.returns-clause-sound
returns-clause-sound c = c.loop-mention.invariant.sound

pub returns-clause-all : goal.returns-clause-all
returns-clause-all c = marks_all c.args.self.now.mentions.items c.loop-mention.mention-index c.loop-mention.marks.items (omega arith) c.loop-mention.invariant

pub loop-mention-preserved : goal.loop-mention-preserved
loop-mention-preserved c = marks_more c.args.self.now.mentions.items c.loop-mention.mention-index c.mention-item.result c.borrow_owner.result c.loop-mention.marks.items c.mark.new.marks.items (omega arith) (item_at c.args.self.now.mentions.items c.deref-mention-items.result.now c.loop-mention.mention-index c.mention-item.result c.mention-item.is c.deref-mention-items.ensures.value) c.borrow_owner.ensures (omega (arith, c.mark.ensures.len)) c.mark.ensures.kept (λ k e lt. c.mark.ensures.marked k e (omega (arith, c.loop-mention.marks.ok.0))) c.mark.ensures.only c.loop-mention.invariant
