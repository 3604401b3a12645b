use Rattle.std.proofs.Common.{◌≡◌, ◌*◌, ◌-◌, ◌≤◌, length, take, sum_by}
use Rattle.cm_text.specs.Sizes.{bytes_taken}
use Rattle.cm_text.specs.Utf16.{units}
use Rattle.cm_text.proofs.sizes.utf16_in_utf8.Given as goal

abbrev pub invariant-loop-count : goal.invariant-loop-count
invariant-loop-count l = (2 * l.count ≤ length l.bytes) × (l.size ≡ sum_by bytes_taken (units (take (2 * l.count) l.bytes)))

abbrev pub decreases-loop-count : goal.decreases-loop-count
decreases-loop-count l = length l.bytes - 2 * l.count

abbrev pub invariant-loop-count-2 : goal.invariant-loop-count-2
invariant-loop-count-2 l = (2 * l.count ≤ length l.bytes) × (l.size ≡ sum_by bytes_taken (units (take (2 * l.count) l.bytes)))

abbrev pub decreases-loop-count-2 : goal.decreases-loop-count-2
decreases-loop-count-2 l = length l.bytes - 2 * l.count
