use Rattle.std.proofs.Common.{◌≤◌}
use Rattle.cm_validate_spaces.proofs.room.func_imports.Given as goal

abbrev pub invariant-loop-import : goal.invariant-loop-import
invariant-loop-import l = l.count ≤ l.import-index
