use Rattle.std.proofs.Common.{ℕ, ◌-◌, ◌<◌, length, subst, sym}
use Rattle.cm_machine_model.specs.State.{State}
use Rattle.cm_machine_parts.specs.Kept.{CanEnd, Runs}
use Rattle.cm_machine_parts.specs.Lends.{NoneAbove}
use Rattle.cm_machine_parts.specs.States.{state_of}
use Rattle.cm_machine_parts.proofs.Ending.{none_above, top_below}
use Rattle.cm_machine_parts.proofs.LendLists.{all_lent}
use Rattle.cm_machine_parts.proofs.laws.calls_can_end.Goals as goal

pub returns : goal.returns
returns c plan s runs some = record {
  some = some;
  above = subst (λ n. NoneAbove n (state_of s).lends) (sym (top_below (state_of s).stack)) (none_above (state_of s) runs.valid.to_calls some);
  lent = all_lent (state_of s) runs.valid.counted;
}
