use Rattle.std.proofs.Common.{◌≡◌, ◌-◌, ◌≤◌, length, take, sum_by}
use Rattle.cm_text.specs.Sizes.{latin1_taken}
use Rattle.cm_text.proofs.sizes.latin1_in_utf8.Given as goal

abbrev pub invariant-loop-at : goal.invariant-loop-at
invariant-loop-at l = (l.at ≤ length l.bytes) × (l.size ≡ sum_by latin1_taken (take l.at l.bytes))

abbrev pub decreases-loop-at : goal.decreases-loop-at
decreases-loop-at l = length l.bytes - l.at

abbrev pub invariant-loop-at-2 : goal.invariant-loop-at-2
invariant-loop-at-2 l = (l.at ≤ length l.bytes) × (l.size ≡ sum_by latin1_taken (take l.at l.bytes))

abbrev pub decreases-loop-at-2 : goal.decreases-loop-at-2
decreases-loop-at-2 l = length l.bytes - l.at
