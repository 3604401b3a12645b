use Rattle.cm_wit_graph.proofs.RankLaws.{ranks}
use Rattle.cm_wit_graph.proofs.laws.nodes_can_be_ranked.Goals as goal

pub returns : goal.returns
returns c = λ count needs within acyclic. ranks needs count within acyclic
