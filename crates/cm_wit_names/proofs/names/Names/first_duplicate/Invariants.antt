use Rattle.cm_wit_names.proofs.DistinctLaws.{Seen}
use Rattle.cm_wit_names.proofs.names.Names.first_duplicate.Given as goal

abbrev pub invariant-loop-index : goal.invariant-loop-index
invariant-loop-index l = Seen l.self.mentions.items l.index l.seen
