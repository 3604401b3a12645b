use Rattle.std.proofs.Common.{◌+◌, ◌*◌, ◌-◌, length}
use Rattle.cm_text.proofs.StretchLemmas.{Narrows}
use Rattle.cm_text.proofs.kernels.narrow_long_run.Given as goal

abbrev pub invariant-loop-run : goal.invariant-loop-run
invariant-loop-run l = Narrows l.bytes l.at l.fn.out l.to l.out l.run

abbrev pub decreases-loop-run : goal.decreases-loop-run
decreases-loop-run l = length l.bytes - (l.at + 2 * l.run)

abbrev pub invariant-loop-run-2 : goal.invariant-loop-run-2
invariant-loop-run-2 l = Narrows l.bytes l.at l.fn.out l.to l.out l.run

abbrev pub decreases-loop-run-2 : goal.decreases-loop-run-2
decreases-loop-run-2 l = length l.bytes - (l.at + 2 * l.run)
