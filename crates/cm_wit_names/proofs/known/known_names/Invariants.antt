use Rattle.cm_wit_names.proofs.TableLaws.{Seeks}
use Rattle.cm_wit_names.proofs.known.known_names.Given as goal

abbrev pub invariant-loop-index : goal.invariant-loop-index
invariant-loop-index l = Seeks l.mentions l.index l.table
