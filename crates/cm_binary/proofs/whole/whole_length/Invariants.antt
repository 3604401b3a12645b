use Rattle.std.proofs.Common.{length, ◌-◌, ◌≤◌}
use Rattle.cm_binary.proofs.whole.whole_length.Given as goal

abbrev pub invariant-loop-whole : goal.invariant-loop-whole
invariant-loop-whole l = l.whole ≤ length l.bytes

abbrev pub decreases-loop-whole : goal.decreases-loop-whole
decreases-loop-whole l = length l.bytes - l.whole
