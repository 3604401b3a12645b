use Rattle.std.proofs.Common.{◌≡◌, ◌*◌, ◌-◌, ◌≤◌, length, take}
use Rattle.cm_text.specs.Utf16.{first_bytes}
use Rattle.cm_text.proofs.kernels.narrow.Given as goal

abbrev pub invariant-loop-out : goal.invariant-loop-out
invariant-loop-out l = (l.to ≤ length l.out) × (take l.to l.out ≡ first_bytes (take (2 * l.to) l.bytes))

abbrev pub decreases-loop-out : goal.decreases-loop-out
decreases-loop-out l = length l.out - l.to

abbrev pub invariant-loop-to : goal.invariant-loop-to
invariant-loop-to l = (l.to ≤ length l.out) × (take l.to l.out ≡ first_bytes (take (2 * l.to) l.bytes))

abbrev pub decreases-loop-to : goal.decreases-loop-to
decreases-loop-to l = length l.out - l.to
