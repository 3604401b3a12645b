use Rattle.std.proofs.Common.{◌≡◌, ◌+◌, ◌*◌, ◌-◌, ◌≤◌, length, drop}
use Rattle.std.specs.Char.{is_ascii}
use Rattle.std.specs.List.{prefix_len}
use Rattle.cm_text.specs.Utf16.{units}
use Rattle.cm_text.proofs.kernels.ascii_units.Given as goal

abbrev pub invariant-loop-count : goal.invariant-loop-count
invariant-loop-count l = (2 * l.count ≤ length l.bytes) × (l.count + prefix_len is_ascii (units (drop (2 * l.count) l.bytes)) ≡ prefix_len is_ascii (units l.bytes))

abbrev pub decreases-loop-count : goal.decreases-loop-count
decreases-loop-count l = length l.bytes - 2 * l.count

abbrev pub invariant-loop-count-2 : goal.invariant-loop-count-2
invariant-loop-count-2 l = (2 * l.count ≤ length l.bytes) × (l.count + prefix_len is_ascii (units (drop (2 * l.count) l.bytes)) ≡ prefix_len is_ascii (units l.bytes))

abbrev pub decreases-loop-count-2 : goal.decreases-loop-count-2
decreases-loop-count-2 l = length l.bytes - 2 * l.count
