use Rattle.std.proofs.Common.{length}
use Rattle.cm_wit_projects_reading.proofs.PassingLaws.{Skips}
use Rattle.cm_wit_projects_reading.proofs.left_out.skip_past.Given as goal

abbrev pub invariant-loop-cursor : goal.invariant-loop-cursor
invariant-loop-cursor l = Skips l.closing l.initial.cursor l.cursor

abbrev pub decreases-loop-cursor : goal.decreases-loop-cursor
decreases-loop-cursor l = length l.cursor
