use Rattle.cm_wit_names.proofs.UnknownLaws.{NoUnknown}
use Rattle.cm_wit_names.proofs.names.Names.first_unknown.Given as goal

abbrev pub invariant-loop-index : goal.invariant-loop-index
invariant-loop-index l = NoUnknown l.self.mentions.items l.index
