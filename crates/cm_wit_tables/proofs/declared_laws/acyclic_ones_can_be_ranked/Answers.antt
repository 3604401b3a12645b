use Rattle.cm_wit_tables.proofs.RankLaws.{ranked}
use Rattle.cm_wit_tables.proofs.declared_laws.acyclic_ones_can_be_ranked.Goals as goal

pub returns : goal.returns
returns c = λ ds acyclic. ranked ds c.nodes_can_be_ranked.ensures acyclic
