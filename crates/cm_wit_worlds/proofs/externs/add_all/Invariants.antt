use Rattle.cm_wit_worlds.proofs.ListLaws.{Ends}
use Rattle.cm_wit_worlds.proofs.externs.add_all.Given as goal

abbrev pub invariant-loop-number : goal.invariant-loop-number
invariant-loop-number l = Ends (λ x. x) (λ i xs. xs) l.numbers l.number-index l.fn.out.items l.out.items
