use Rattle.cm_wit_names.proofs.UnknownLaws.{NoBorrow}
use Rattle.cm_wit_names.proofs.names.Names.first_borrow.Given as goal

abbrev pub invariant-loop-index : goal.invariant-loop-index
invariant-loop-index l = NoBorrow l.self.mentions.items l.index
