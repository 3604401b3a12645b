use Rattle.std.proofs.Common.{◌≡◌, ◌<◌, ◌≤◌, ℕ, length}
use Rattle.std.specs.Prelude.{slice_get}
use Rattle.cm_machine.specs.Player.{closes_between, seat_after_close}
use Rattle.cm_machine.proofs.turns.empty_closed.Given as goal

abbrev pub invariant-loop-i : goal.invariant-loop-i
invariant-loop-i g l = record {
  done : (k : ℕ) → k < l.i → slice_get l.seats.items k ≡ seat_after_close (closes_between l.before l.after k) (slice_get l.fn.seats.items k);
  rest : (k : ℕ) → l.i ≤ k → slice_get l.seats.items k ≡ slice_get l.fn.seats.items k;
  long : length l.seats.items ≡ length l.fn.seats.items;
}
