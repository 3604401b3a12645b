use Rattle.cm_abi_model.specs.Lifts.{LendsBelow}
use Rattle.rows_calls.proofs.tables.read_table.Given as goal

abbrev pub invariant-loop-part : goal.invariant-loop-part
invariant-loop-part l =
    (goal.iterator-loop-part).can_next l.part-iterator ×
    (goal.iterator-loop-part).is_finite l.part-iterator ×
    LendsBelow 256 l.table.handles
