use Rattle.cm_abi_model.specs.Lifts.{LendsBelow}
use Rattle.rows_calls.proofs.tables.add.Given as goal

abbrev pub invariant-loop : goal.invariant-loop
invariant-loop l = LendsBelow 256 l.table.handles
