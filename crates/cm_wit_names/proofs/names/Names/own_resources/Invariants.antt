use Rattle.cm_wit_names.proofs.UnknownLaws.{Own}
use Rattle.cm_wit_names.proofs.names.Names.own_resources.Given as goal

abbrev pub invariant-loop-mention : goal.invariant-loop-mention
invariant-loop-mention l = Own l.self.mentions.items l.mention-index l.marks.items
