use Rattle.cm_wit_worlds.proofs.ListLaws.{Same}
use Rattle.cm_wit_worlds.proofs.lists.set_of.Given as goal

abbrev pub invariant-loop-number : goal.invariant-loop-number
invariant-loop-number l = Same l.numbers l.number-index l.set.keys
