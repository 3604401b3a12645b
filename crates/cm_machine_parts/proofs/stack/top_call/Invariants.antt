use Rattle.std.proofs.Common.{◌≡◌, ◌≤◌, length}
use Rattle.std.specs.Prelude.{reverse, take}
use Rattle.cm_machine_model.specs.Work.{top_call}
use Rattle.cm_machine_parts.proofs.stack.top_call.Given as goal

abbrev pub invariant-loop-above : goal.invariant-loop-above
invariant-loop-above l = record {
  within : l.above ≤ length l.frames;
  same : top_call (reverse l.frames) ≡ top_call (reverse (take l.above l.frames));
}

abbrev pub decreases-loop-above : goal.decreases-loop-above
decreases-loop-above l = l.above
