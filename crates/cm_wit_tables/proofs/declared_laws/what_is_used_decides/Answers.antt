use Rattle.cm_wit_tables.proofs.TableLaws.{uses_decide}
use Rattle.cm_wit_tables.proofs.declared_laws.what_is_used_decides.Goals as goal

pub returns : goal.returns
returns c = uses_decide
