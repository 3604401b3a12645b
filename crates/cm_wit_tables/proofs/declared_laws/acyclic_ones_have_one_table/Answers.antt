use Rattle.cm_wit_tables.proofs.TableLaws.{one_table}
use Rattle.cm_wit_tables.proofs.declared_laws.acyclic_ones_have_one_table.Goals as goal

pub returns : goal.returns
returns c = λ ds acyclic. let r = c.acyclic_ones_can_be_ranked.ensures ds acyclic in one_table ds r.0 r.1
