use Rattle.cm_wit_graph.specs.DepthFirst.{needs_of}
use Rattle.cm_wit_worlds.proofs.ListLaws.{Needs}
use Rattle.cm_wit_worlds.proofs.lists.other_needs.Given as goal

abbrev pub invariant-loop-number : goal.invariant-loop-number
invariant-loop-number l = Needs (needs_of l.needs) l.numbers l.number-index l.out.items
