use Rattle.std.proofs.Common.{length}
use Rattle.cm_wit_projects_reading.proofs.SoughtLaws.{Seeks}
use Rattle.cm_wit_projects_reading.proofs.places.nth_name.Given as goal

abbrev pub invariant-loop-token : goal.invariant-loop-token
invariant-loop-token l = Seeks l.left l.fn.tokens.items l.number l.tokens.items l.before

abbrev pub decreases-loop-token : goal.decreases-loop-token
decreases-loop-token l = length l.tokens.items
