-- A drive that is watched.
use Rattle.std.specs.Prelude.{◌≡◌, ℕ, ◌≤◌, ◌⊎◌, Bool, true, false, List, [], ◌∷◌, length}
use Rattle.std.specs.Prelude.{Option, slice_get, Some}
use Rattle.std.specs.Option.{option_map}
use Rattle.cm_machine_model.specs.declared.event.Event.{Event}
use Rattle.cm_machine_model.specs.declared.event.Event.TheVariants as event
use Rattle.cm_machine_model.specs.declared.moves.Move.{Move}
use Rattle.cm_machine_model.specs.Events.{is_last}
use Rattle.cm_machine_model.specs.Memories.{memory_at}
use Rattle.cm_machine_model.specs.Stack.{actor, top_of}
use Rattle.cm_machine_guests.specs.Sights.{Sight}
use Rattle.cm_machine_set.specs.Running.{RunningSet, SetSteps}
use Rattle.cm_machine.specs.Player.{StaysTaken, last_of}
use Rattle.cm_machine.specs.Seeing.{IsTurn, SeatSees, SeeingTurn, sights_of}

-- As `SeeingTurns`, and a watcher is shown each move with the set as it is before it, and each
-- event with the set as it is behind it, each once, in order, and nothing else. A turn is made only
-- where the watcher wanted the drive to go on; `end` says what it wanted last.
abbrev pub WatchedTurns : {W : Type 0} → (W → RunningSet → Move → W → Type 0)
    → (W → RunningSet → Event → Bool → W → Type 0) → RunningSet → W → Event → Bool
    → List SeeingTurn → List Event → RunningSet → W → Bool → Type 0
WatchedTurns before after s w seen go [] [] new v end = (new ≡ s) × (v ≡ w) × (end ≡ go)
WatchedTurns before after s w seen go [] (e ∷ es) new v end = ⊥
WatchedTurns before after s w seen go (t ∷ ts) [] new v end = ⊥
WatchedTurns {W} before after s w seen go (t ∷ ts) (e ∷ es) new v end =
    (t.sight.seen ≡ seen) × (t.sight.memory ≡ memory_at s.state.memories t.by)
    × (is_last seen ≡ false) × (go ≡ true)
    × (option_map actor (top_of s.state.stack) ≡ Some t.by)
    × ((looked : W) × before w s t.sight.made looked
    × ((mid : RunningSet) × SetSteps s t.sight.made e mid
    × ((wants : Bool) × (shown : W) × after looked mid e wants shown
    × WatchedTurns before after mid shown e wants ts es new v end)))

-- One turn whose move a watcher is shown.
pub record IsLookedAt {G W : Type 0} (plays : G → List Sight → Type 0)
    (before : W → RunningSet → Move → W → Type 0) (start : RunningSet) (seen : Event)
    (old_seats : List (Option G)) (was : W) (told : Event) (new : RunningSet)
    (seats : List (Option G)) (now : W) : Type 0 where
  pub turn : IsTurn plays start seen old_seats told new seats
  pub looked : before was start turn.turn.sight.made now

-- why a watched drive ends
abbrev pub WatchedEnd : ℕ → Event → Bool → ℕ → Type 0
WatchedEnd limit last wants moves = (is_last last ≡ true) ⊎ ((wants ≡ false) ⊎ (moves ≡ limit))

-- A watched drive before the seats of closed instances are emptied, from the set where this event
-- was the first.
pub record IsWatchedPlay {G W : Type 0} (plays : G → List Sight → Type 0)
    (before : W → RunningSet → Move → W → Type 0)
    (after : W → RunningSet → Event → Bool → W → Type 0) (start : RunningSet) (first : Event)
    (old_seats : List (Option G)) (was : W) (limit : ℕ) (last : Event) (new : RunningSet)
    (seats : List (Option G)) (now : W) : Type 0 where
  pub wants : Bool
  pub shown : W
  pub saw_first : after was start first wants shown
  pub turns : List SeeingTurn
  pub told : List Event
  pub end : Bool
  pub went : WatchedTurns before after start shown first wants turns told new now end
  pub last_is : last ≡ last_of first told
  pub within : length turns ≤ limit
  pub ends : WatchedEnd limit last end (length turns)
  pub seats_play : (i : ℕ)
      → SeatSees plays (slice_get old_seats i) (slice_get seats i) (sights_of i turns)
  pub seats_stay : (i : ℕ) → StaysTaken (slice_get old_seats i) (slice_get seats i)

-- From the set after `begin`, with these seats, this last event, this new set and these new seats
-- are a drive whose guests see (`IsSeeingDrive`), but that it may end where a watcher has enough;
-- the watcher saw all of it, and nothing else.
pub record IsWatchedDrive {G W : Type 0} (plays : G → List Sight → Type 0)
    (before : W → RunningSet → Move → W → Type 0)
    (after : W → RunningSet → Event → Bool → W → Type 0) (root limit : ℕ) (start : RunningSet)
    (old_seats : List (Option G)) (was : W) (last : Event) (new : RunningSet)
    (seats : List (Option G)) (now : W) : Type 0 where
  pub wants : Bool
  pub shown : W
  pub saw_first : after was start (event.Resume root []) wants shown
  pub turns : List SeeingTurn
  pub told : List Event
  pub end : Bool
  pub went : WatchedTurns before after start shown (event.Resume root []) wants turns told new now
      end
  pub last_is : last ≡ last_of (event.Resume root []) told
  pub within : length turns ≤ limit
  pub ends : WatchedEnd limit last end (length turns)
  pub seats_play : (i : ℕ)
      → SeatSees plays (slice_get old_seats i) (slice_get seats i) (sights_of i turns)
