use Rattle.cm_wit_names.proofs.BorrowLaws.{Marks}
use Rattle.cm_wit_names.proofs.names.Names.borrowing.Given as goal

abbrev pub invariant-loop-mention : goal.invariant-loop-mention
invariant-loop-mention l = Marks l.self.mentions.items l.mention-index l.marks.items
