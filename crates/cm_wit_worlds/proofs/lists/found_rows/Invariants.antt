use Rattle.std.proofs.Common.{map}
use Rattle.cm_wit_worlds.specs.Externs.{found}
use Rattle.cm_wit_worlds.proofs.ListLaws.{Rests}
use Rattle.cm_wit_worlds.proofs.lists.found_rows.Given as goal

abbrev pub invariant-loop-row : goal.invariant-loop-row
invariant-loop-row l = Rests (λ r. r.items) (map found) (λ r. r.items) l.rows l.row-index l.out.items
