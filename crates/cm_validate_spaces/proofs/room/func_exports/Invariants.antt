use Rattle.std.proofs.Common.{◌≤◌}
use Rattle.cm_validate_spaces.proofs.room.func_exports.Given as goal

abbrev pub invariant-loop-export : goal.invariant-loop-export
invariant-loop-export l = l.count ≤ l.export-index
