use Rattle.cm_wit_signature.proofs.LoopLaws.{Made}
use Rattle.cm_wit_signature.proofs.externs.push_externs.Given as goal

abbrev pub invariant-loop-number : goal.invariant-loop-number
invariant-loop-number l = Made l.parts l.initial.types l.first l.numbers l.number-index l.types l.list l.externs.items
