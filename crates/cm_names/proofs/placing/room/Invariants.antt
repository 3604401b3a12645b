use Rattle.std.proofs.Common.{◌≢◌, ◌≤◌, ◌<◌, ℕ, get_or}
use Rattle.cm_names.proofs.placing.room.Given as goal

-- the places so far are marked
abbrev pub invariant-loop-at : goal.invariant-loop-at
invariant-loop-at l = (l.home ≤ l.at) × ((i : ℕ) → l.home ≤ i → i < l.at → get_or l.marks i 0 ≢ 0)
