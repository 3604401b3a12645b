use Rattle.std.proofs.Common.{take}
use Rattle.cm_match.specs.Pairs.{AreTables}
use Rattle.cm_match.proofs.judged.shared_in.Given as goal

abbrev pub invariant-loop-checked : goal.invariant-loop-checked
invariant-loop-checked l = AreTables (take l.checked-index l.components) l.tables.items
