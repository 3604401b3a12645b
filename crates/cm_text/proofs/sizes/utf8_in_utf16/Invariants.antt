use Rattle.std.proofs.Common.{◌≡◌, ◌-◌, ◌≤◌, length, take, sum_by}
use Rattle.cm_text.specs.Sizes.{units_begun}
use Rattle.cm_text.proofs.sizes.utf8_in_utf16.Given as goal

abbrev pub invariant-loop-at : goal.invariant-loop-at
invariant-loop-at l = (l.at ≤ length l.bytes) × (l.units ≡ sum_by units_begun (take l.at l.bytes))

abbrev pub decreases-loop-at : goal.decreases-loop-at
decreases-loop-at l = length l.bytes - l.at

abbrev pub invariant-loop-at-2 : goal.invariant-loop-at-2
invariant-loop-at-2 l = (l.at ≤ length l.bytes) × (l.units ≡ sum_by units_begun (take l.at l.bytes))

abbrev pub decreases-loop-at-2 : goal.decreases-loop-at-2
decreases-loop-at-2 l = length l.bytes - l.at
