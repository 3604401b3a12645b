use Rattle.cm_wit_tables.proofs.FillOrderLaws.{ordered_ranks}
use Rattle.cm_wit_tables.proofs.laws.ordered_ones_can_be_ranked.Goals as goal

pub returns : goal.returns
returns c = ordered_ranks
