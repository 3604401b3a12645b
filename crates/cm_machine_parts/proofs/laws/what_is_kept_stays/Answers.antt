use Rattle.cm_machine_parts.proofs.Ending.{counted_below, encoded_below}
use Rattle.cm_machine_parts.proofs.Standing.{counted_anew, counted_changed, counted_pushed}
use Rattle.cm_machine_parts.proofs.laws.what_is_kept_stays.Goals as goal

pub returns : goal.returns
returns c = record {
  pushed = counted_pushed;
  popped = counted_below;
  changed = counted_changed;
  counted = counted_anew;
  leaves = encoded_below;
}
