use Rattle.cm_wit_tables.proofs.TableLaws.{one_table}
use Rattle.cm_wit_tables.proofs.declared_laws.one_table.Goals as goal

pub returns : goal.returns
returns c = one_table
