use Rattle.cm_wit_signature.proofs.ListLaws.{Sides}
use Rattle.cm_wit_signature.proofs.instances.add_instances.Given as goal

abbrev pub invariant-loop-number : goal.invariant-loop-number
invariant-loop-number l = Sides l.exported l.count l.numbers l.number-index l.fn.out.items l.out.items
