-- A drive whose guests see the memory of their instance.
use Rattle.std.specs.Prelude.{◌≡◌, ◌≢◌, ℕ, ◌≤◌, ◌==◌, false, if◌then◌else◌, List, []}
use Rattle.std.specs.Prelude.{◌∷◌, length, Option, Some, slice_get}
use Rattle.std.specs.List.{FoldsTo}
use Rattle.std.specs.Option.{option_map}
use Rattle.cm_machine_model.specs.declared.event.Event.{Event}
use Rattle.cm_machine_model.specs.declared.event.Event.TheVariants as event
use Rattle.cm_machine_guests.specs.Sights.{Sight}
use Rattle.cm_machine_model.specs.Events.{is_last}
use Rattle.cm_machine_model.specs.Memories.{memory_at}
use Rattle.cm_machine_model.specs.Stack.{actor, top_of}
use Rattle.cm_machine_set.specs.Running.{RunningSet, SetSteps}
use Rattle.cm_machine.specs.Player.{EndsAt, SeatPlaysBy, StaysTaken, last_of}

-- one turn of a drive: the instance that acted, with what it saw and made
pub record SeeingTurn : Type 0 where
  pub by : ℕ
  pub sight : Sight

-- As `Turns`, and each turn sees the memory of the acting instance as it is before the move.
abbrev pub SeeingTurns : RunningSet → Event → List SeeingTurn → List Event → RunningSet → Type 0
SeeingTurns s seen [] [] new = new ≡ s
SeeingTurns s seen [] (e ∷ es) new = ⊥
SeeingTurns s seen (t ∷ ts) [] new = ⊥
SeeingTurns s seen (t ∷ ts) (e ∷ es) new =
    (t.sight.seen ≡ seen) × (t.sight.memory ≡ memory_at s.state.memories t.by)
    × (is_last seen ≡ false) × (option_map actor (top_of s.state.stack) ≡ Some t.by)
    × ((mid : RunningSet) × SetSteps s t.sight.made e mid × SeeingTurns mid e ts es new)

-- what the instance i saw and made
abbrev pub sights_of : ℕ → List SeeingTurn → List Sight
sights_of i [] = []
sights_of i (t ∷ ts) = if t.by == i then t.sight ∷ sights_of i ts else sights_of i ts

-- what became of a seat whose guest sees its memory
abbrev pub SeatSees : {G : Type 0} → (G → List Sight → Type 0)
    → Option (Option G) → Option (Option G) → List Sight → Type 0
SeatSees plays old new told = SeatPlaysBy (λ x. x.made) plays old new told

-- One turn, from the set where this event was seen last: the acting instance's guest makes a move,
-- which leads to this event, this new set and these new seats. No other seat changes.
pub record IsTurn {G : Type 0} (plays : G → List Sight → Type 0) (start : RunningSet)
    (seen : Event) (old_seats : List (Option G)) (told : Event) (new : RunningSet)
    (seats : List (Option G)) : Type 0 where
  pub turn : SeeingTurn
  pub saw : turn.sight.seen ≡ seen
  pub memory : turn.sight.memory ≡ memory_at start.state.memories turn.by
  pub acts : option_map actor (top_of start.state.stack) ≡ Some turn.by
  pub steps : SetSteps start turn.sight.made told new
  pub plays_seat : SeatSees plays (slice_get old_seats turn.by) (slice_get seats turn.by)
      (turn.sight ∷ [])
  pub stays : StaysTaken (slice_get old_seats turn.by) (slice_get seats turn.by)
  pub others : (i : ℕ) → i ≢ turn.by → slice_get seats i ≡ slice_get old_seats i

-- From the set after `begin`, with these seats, these events, this new set and these new seats
-- are a drive whose guests see: as `IsDrive`, and the moves of a guest come from the events and the
-- memories that it was shown.
pub record IsSeeingDrive {G : Type 0} (plays : G → List Sight → Type 0) (root limit : ℕ)
    (start : RunningSet) (old_seats : List (Option G)) (events : List Event) (new : RunningSet)
    (seats : List (Option G)) : Type 0 where
  pub turns : List SeeingTurn
  pub told : List Event
  pub events_are : events ≡ event.Resume root [] ∷ told
  pub went : SeeingTurns start (event.Resume root []) turns told new
  pub within : length turns ≤ limit
  pub ends : EndsAt limit (last_of (event.Resume root []) told) (length turns)
  pub seats_play : (i : ℕ)
      → SeatSees plays (slice_get old_seats i) (slice_get seats i) (sights_of i turns)

-- A drive before the seats of closed instances are emptied.
pub record IsSeeingPlay {G : Type 0} (plays : G → List Sight → Type 0) (start : RunningSet)
    (first : Event) (old_seats : List (Option G)) (limit : ℕ) (told : List Event)
    (new : RunningSet) (seats : List (Option G)) : Type 0 where
  pub turns : List SeeingTurn
  pub went : SeeingTurns start first turns told new
  pub within : length turns ≤ limit
  pub ends : EndsAt limit (last_of first told) (length turns)
  pub seats_play : (i : ℕ)
      → SeatSees plays (slice_get old_seats i) (slice_get seats i) (sights_of i turns)
  pub seats_stay : (i : ℕ) → StaysTaken (slice_get old_seats i) (slice_get seats i)

-- A drive that found no memory for an event, as `IsHalt`.
pub record IsSeeingHalt {G : Type 0} (plays : G → List Sight → Type 0) (start : RunningSet)
    (first : Event) (old_seats : List (Option G)) (limit : ℕ) (new : RunningSet)
    (seats : List (Option G)) : Type 0 where
  pub turns : List SeeingTurn
  pub told : List Event
  pub went : SeeingTurns start first turns told new
  pub not_last : is_last (last_of first told) ≡ false
  pub within : length turns ≤ limit
  pub seats_play : (i : ℕ)
      → SeatSees plays (slice_get old_seats i) (slice_get seats i) (sights_of i turns)
  pub seats_stay : (i : ℕ) → StaysTaken (slice_get old_seats i) (slice_get seats i)

-- ---- events as they come

-- By such calls a listener was told these events, one after the other, and nothing else.
abbrev pub IsTold : {F : Type 0} → (F → Event → F → Type 0) → F → List Event → Type 0
IsTold {F} heard listener events = (last : F) × FoldsTo heard listener events last

-- A drive whose events a listener was told as they came; the answer is the last of them.
pub record IsToldDrive {G F : Type 0} (plays : G → List Sight → Type 0)
    (heard : F → Event → F → Type 0) (root limit : ℕ) (start : RunningSet)
    (old_seats : List (Option G)) (listener : F) (last : Event) (new : RunningSet)
    (seats : List (Option G)) : Type 0 where
  pub told : List Event
  pub drive : IsSeeingDrive plays root limit start old_seats (event.Resume root [] ∷ told) new
      seats
  pub heard_all : IsTold heard listener (event.Resume root [] ∷ told)
  pub answer : last ≡ last_of (event.Resume root []) told
