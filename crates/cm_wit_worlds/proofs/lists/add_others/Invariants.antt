use Rattle.std.proofs.Common.{not}
use Rattle.std.specs.Prelude.{filter}
use Rattle.cm_wit_graph.specs.DepthFirst.{is_among}
use Rattle.cm_wit_worlds.proofs.ListLaws.{Ends}
use Rattle.cm_wit_worlds.proofs.lists.add_others.Given as goal

abbrev pub invariant-loop-number : goal.invariant-loop-number
invariant-loop-number l = Ends (λ x. x) (λ i xs. filter (λ n. not (is_among n l.set.keys)) xs) l.numbers l.number-index l.fn.out.items l.out.items
