use Rattle.std.proofs.Common.{◌-◌, length}
use Rattle.cm_text.proofs.PlainLemmas.{Plain}
use Rattle.cm_text.proofs.kernels.after_plain_units.Given as goal

abbrev pub invariant-loop-at : goal.invariant-loop-at
invariant-loop-at l = Plain l.bytes l.at

abbrev pub decreases-loop-at : goal.decreases-loop-at
decreases-loop-at l = length l.bytes - l.at
