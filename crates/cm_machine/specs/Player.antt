-- A drive: one root call, played by the guests on their seats.
use Rattle.std.specs.Prelude.{◌≡◌, ℕ, ◌≤◌, ◌⊎◌, ◌==◌, ◌&&◌, Bool, true, false, not, unwrap_or}
use Rattle.std.specs.Prelude.{if◌then◌else◌, List, [], ◌∷◌, ◌++◌, length, Option, Some, None}
use Rattle.std.specs.Prelude.{slice_get}
use Rattle.std.specs.Option.{option_map}
use Rattle.std.specs.List.{AllByRecursion}
use Rattle.cm_machine_model.specs.declared.event.Event.{Event}
use Rattle.cm_machine_model.specs.declared.event.Event.TheVariants as event
use Rattle.cm_machine_model.specs.declared.moves.Move.{Move}
use Rattle.cm_machine_model.specs.declared.moves.Move.TheVariants as move
use Rattle.cm_machine_model.specs.Exchange.{Exchange}
use Rattle.cm_machine_model.specs.Events.{is_last}
use Rattle.cm_machine_model.specs.Stack.{actor, top_of}
use Rattle.cm_machine_set.specs.Running.{RunningSet, SetSteps}

-- one turn of a drive: the instance that acted, the event that it saw, the move that was made
pub record Turn : Type 0 where
  pub by : ℕ
  pub seen : Event
  pub made : Move

-- From the set s, where this event was seen last, these turns lead to these events and this new
-- set. Each turn is the acting instance's; it sees the event before it, which was not the last.
abbrev pub Turns : RunningSet → Event → List Turn → List Event → RunningSet → Type 0
Turns s seen [] [] new = new ≡ s
Turns s seen [] (e ∷ es) new = ⊥
Turns s seen (t ∷ ts) [] new = ⊥
Turns s seen (t ∷ ts) (e ∷ es) new =
    (t.seen ≡ seen) × (is_last seen ≡ false)
    × (option_map actor (top_of s.state.stack) ≡ Some t.by)
    × ((mid : RunningSet) × SetSteps s t.made e mid × Turns mid e ts es new)

-- the last of these events, the first one where no others are
abbrev pub last_of : Event → List Event → Event
last_of e [] = e
last_of e (x ∷ xs) = last_of x xs

-- what the instance i saw and made
abbrev pub exchanges_of : ℕ → List Turn → List Exchange
exchanges_of i [] = []
exchanges_of i (t ∷ ts) =
    if t.by == i
    then record { seen = t.seen; made = t.made } ∷ exchanges_of i ts
    else exchanges_of i ts

-- each move that was made is a stop
abbrev pub AreStops : {X : Type 0} → (X → Move) → List X → Type 0
AreStops made xs = AllByRecursion (λ x. made x ≡ move.Unreachable) xs

-- A guest took part in these exchanges, as its interface means it.
abbrev pub TookPart : {G X : Type 0} → (G → List X → Type 0) → G → List X → Type 0
TookPart plays g told = (told ≡ []) ⊎ plays g told

-- What took part in these exchanges is now h: what h may go on with, g may after them.
abbrev pub GoesOnAs : {G X : Type 0} → (G → List X → Type 0) → G → G → List X → Type 0
GoesOnAs {G} {X} plays g h told = (rest : List X) → plays h rest → plays g (told ++ rest)

-- What became of a seat: a guest there took part in these exchanges, and the seat holds what it is
-- now, or nothing any more. An empty or missing seat only stops, and stays so. An exchange says
-- which move was made.
abbrev pub SeatPlaysBy : {G X : Type 0} → (X → Move) → (G → List X → Type 0)
    → Option (Option G) → Option (Option G) → List X → Type 0
SeatPlaysBy made plays (Some (Some g)) (Some (Some h)) told =
    TookPart plays g told × GoesOnAs plays g h told
SeatPlaysBy made plays (Some (Some g)) (Some None) told = TookPart plays g told
SeatPlaysBy made plays (Some (Some g)) None told = ⊥
SeatPlaysBy made plays (Some None) (Some (Some h)) told = ⊥
SeatPlaysBy made plays (Some None) (Some None) told = AreStops made told
SeatPlaysBy made plays (Some None) None told = ⊥
SeatPlaysBy made plays None (Some seat) told = ⊥
SeatPlaysBy made plays None None told = AreStops made told

-- the same of what a guest sees and makes
abbrev pub SeatPlays : {G : Type 0} → (G → List Exchange → Type 0)
    → Option (Option G) → Option (Option G) → List Exchange → Type 0
SeatPlays plays old new told = SeatPlaysBy (λ x. x.made) plays old new told

-- whether a seat holds a guest
abbrev pub is_taken : {G : Type 0} → Option (Option G) → Bool
is_taken (Some (Some g)) = true
is_taken (Some None) = false
is_taken None = false

-- The seat keeps its guest, or stays empty or missing.
abbrev pub StaysTaken : {G : Type 0} → Option (Option G) → Option (Option G) → Type 0
StaysTaken old new = is_taken new ≡ is_taken old

-- A drive ends at an event that is the last, or after so many moves, and nowhere else.
abbrev pub EndsAt : ℕ → Event → ℕ → Type 0
EndsAt limit last moves = (is_last last ≡ true) ⊎ ((is_last last ≡ false) × (moves ≡ limit))

-- ---- a whole drive

-- From the set after `begin`, with these seats, these events, this new set and these new seats
-- are a drive: some turns, at most as many as the limit says, each of the acting instance and each
-- answered by its guest, whose events follow the first one, and which end where a drive ends.
pub record IsDrive {G : Type 0} (plays : G → List Exchange → Type 0) (root limit : ℕ)
    (start : RunningSet) (old_seats : List (Option G)) (events : List Event) (new : RunningSet)
    (seats : List (Option G)) : Type 0 where
  pub turns : List Turn
  pub told : List Event
  pub events_are : events ≡ event.Resume root [] ∷ told
  pub went : Turns start (event.Resume root []) turns told new
  pub within : length turns ≤ limit
  pub ends : EndsAt limit (last_of (event.Resume root []) told) (length turns)
  pub seats_play : (i : ℕ)
      → SeatPlays plays (slice_get old_seats i) (slice_get seats i) (exchanges_of i turns)

-- whether an instance is closed by the new flags and was not by the old ones
abbrev pub closes_between : List Bool → List Bool → ℕ → Bool
closes_between old new i =
    unwrap_or (slice_get new i) false && not (unwrap_or (slice_get old i) false)

-- a seat, emptied where this says so
abbrev pub seat_after_close : {G : Type 0} → Bool → Option (Option G) → Option (Option G)
seat_after_close true (Some seat) = Some None
seat_after_close true None = None
seat_after_close false seat = seat

-- A drive that found no memory for an event has made some turns, fewer than it may or as many; its
-- last event is no last one, and each seat holds what those turns left there.
pub record IsHalt {G : Type 0} (plays : G → List Exchange → Type 0) (start : RunningSet)
    (first : Event) (old_seats : List (Option G)) (limit : ℕ) (new : RunningSet)
    (seats : List (Option G)) : Type 0 where
  pub turns : List Turn
  pub told : List Event
  pub went : Turns start first turns told new
  pub not_last : is_last (last_of first told) ≡ false
  pub within : length turns ≤ limit
  pub seats_play : (i : ℕ)
      → SeatPlays plays (slice_get old_seats i) (slice_get seats i) (exchanges_of i turns)
  pub seats_stay : (i : ℕ) → StaysTaken (slice_get old_seats i) (slice_get seats i)
