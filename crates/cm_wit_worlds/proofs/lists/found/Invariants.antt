use Rattle.std.proofs.Common.{[]}
use Rattle.cm_wit_worlds.specs.Externs.{found}
use Rattle.cm_wit_worlds.proofs.ListLaws.{Ends}
use Rattle.cm_wit_worlds.proofs.lists.found.Given as goal

abbrev pub invariant-loop-number : goal.invariant-loop-number
invariant-loop-number l = Ends (λ x. x) (λ i xs. found xs) l.numbers l.number-index [] l.out.items
