use Rattle.cm_names.proofs.KeyLaws.{Seeks}
use Rattle.cm_names.proofs.key_tables.key_table.Given as goal

abbrev pub invariant-loop-place : goal.invariant-loop-place
invariant-loop-place l = Seeks l.keys l.place l.table
