use Rattle.cm_wit_tables.proofs.FillOrderLaws.{acyclic}
use Rattle.cm_wit_tables.proofs.laws.ranked_ones_are_acyclic.Goals as goal

pub returns : goal.returns
returns c = acyclic
