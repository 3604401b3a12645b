use Rattle.cm_names.specs.Listed.{listed}
use Rattle.cm_wit_tables.proofs.RowLaws.{Finds}
use Rattle.cm_wit_tables.proofs.rows.add_targets.Given as goal

abbrev pub invariant-loop-name : goal.invariant-loop-name
invariant-loop-name l = Finds (listed l.keys) l.list l.names l.name-index l.initial.out.items l.out.items
