use Rattle.std.proofs.Common.{◌-◌, ◌≤◌}
use Rattle.cm_text.proofs.StretchLemmas.{Widens}
use Rattle.cm_text.proofs.kernels.widen_few.Given as goal

abbrev pub invariant-loop-run : goal.invariant-loop-run
invariant-loop-run l = (l.run ≤ 16) × Widens l.bytes l.at l.fn.out l.to l.out l.run

abbrev pub decreases-loop-run : goal.decreases-loop-run
decreases-loop-run l = 16 - l.run
