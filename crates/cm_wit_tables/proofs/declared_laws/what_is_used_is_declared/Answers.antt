use Rattle.cm_wit_tables.proofs.RankLaws.{uses_within}
use Rattle.cm_wit_tables.proofs.declared_laws.what_is_used_is_declared.Goals as goal

pub returns : goal.returns
returns c = uses_within
