use Rattle.cm_handles.proofs.ClosingTable.{IsClosingTable}
use Rattle.cm_handles.proofs.table.Table.close.Given as goal

abbrev pub invariant-loop-at : goal.invariant-loop-at
invariant-loop-at l = IsClosingTable l.fn.self l.self l.at l.count
