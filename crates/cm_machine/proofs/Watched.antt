-- A watched drive, turn by turn.
use Rattle.std.proofs.Common.{◌≡◌, ◌≢◌, ℕ, ◌+◌, ◌<◌, ◌≤◌, ◌⊎◌, inl, inr, Bool, true, false, List, [], ◌∷◌, ◌++◌, length, Option, refl, sym, ap, subst, ◌∙◌, append_assoc, arith}
use Rattle.std.specs.Prelude.{slice_get, ◌&&◌, not}
use Rattle.std.proofs.lemmas.List.{append-nil, length-append}
use Rattle.cm_machine_model.specs.declared.event.Event.{Event}
use Rattle.cm_machine_model.specs.declared.event.Event.TheVariants as event
use Rattle.cm_machine_model.specs.declared.moves.Move.{Move}
use Rattle.cm_machine_model.specs.Events.{is_last}
use Rattle.cm_machine_guests.specs.Sights.{Sight}
use Rattle.cm_machine_set.specs.Running.{RunningSet}
use Rattle.cm_machine.specs.Player.{EndsAt, StaysTaken, is_taken, last_of, seat_after_close}
use Rattle.cm_machine.specs.Seeing.{SeatSees, SeeingTurn, SeeingTurns, sights_of, IsTurn, IsSeeingDrive, IsSeeingPlay}
use Rattle.cm_machine.specs.Watching.{WatchedTurns, WatchedEnd, IsLookedAt, IsWatchedDrive, IsWatchedPlay}
use Rattle.cm_machine.proofs.Drives.{seat_rests, seats_after, stay_after, last_of_more, seat_empties, taken_after}

-- what holds in mid-drive
pub record Watching {G W : Type 0} (plays : G → List Sight → Type 0) (before : W → RunningSet → Move → W → Type 0) (after : W → RunningSet → Event → Bool → W → Type 0) (start : RunningSet) (first : Event) (old_seats : List (Option G)) (was : W) (last : Event) (s : RunningSet) (seats : List (Option G)) (w : W) (goes_on : Bool) (count : ℕ) : Type 0 where
  pub wants : Bool
  pub shown : W
  pub saw_first : after was start first wants shown
  pub turns : List SeeingTurn
  pub told : List Event
  pub counted : length turns ≡ count
  pub last_is : last ≡ last_of first told
  pub went : (ts : List SeeingTurn) (es : List Event) (new : RunningSet) (v : W) (end : Bool) → WatchedTurns before after s w last goes_on ts es new v end → WatchedTurns before after start shown first wants (turns ++ ts) (told ++ es) new v end
  pub seats_play : (i : ℕ) → SeatSees plays (slice_get old_seats i) (slice_get seats i) (sights_of i turns)
  pub seats_stay : (i : ℕ) → StaysTaken (slice_get old_seats i) (slice_get seats i)

module _ {G W : Type 0} (plays : G → List Sight → Type 0) (before : W → RunningSet → Move → W → Type 0) (after : W → RunningSet → Event → Bool → W → Type 0) (start : RunningSet) (first : Event) (old : List (Option G)) (was : W) where
  pub begins_watching : (wants : Bool) (shown : W) → after was start first wants shown → Watching plays before after start first old was first start old shown wants 0
  begins_watching wants shown saw = record {
    wants = wants;
    shown = shown;
    saw_first = saw;
    turns = [];
    told = [];
    counted = refl;
    last_is = refl;
    went = λ ts es new v end h. h;
    seats_play = λ i. seat_rests (λ x. x.made) plays (slice_get old i);
    seats_stay = λ i. refl;
  }

  pub watches_on : (last : Event) (s : RunningSet) (seats : List (Option G)) (w : W) (goes_on : Bool) (count : ℕ)
      → Watching plays before after start first old was last s seats w goes_on count
      → (e : Event) (mid : RunningSet) (seats_then : List (Option G)) (looked shown : W) (wants : Bool)
      → is_last last ≡ false → goes_on ≡ true → IsLookedAt plays before s last seats w e mid seats_then looked → after looked mid e wants shown
      → Watching plays before after start first old was e mid seats_then shown wants (count + 1)
  watches_on last s seats w goes_on count p e mid seats_then looked shown wants more goes x saw =
      let t : SeeingTurn = x.turn.turn in
      record {
        wants = p.wants;
        shown = p.shown;
        saw_first = p.saw_first;
        turns = p.turns ++ t ∷ [];
        told = p.told ++ e ∷ [];
        counted = length-append p.turns (t ∷ []) ∙ omega (arith, p.counted);
        last_is = sym (last_of_more first p.told e);
        went = λ ts es new v end h.
            rw (append_assoc, append_assoc) (p.went (t ∷ ts) (e ∷ es) new v end (x.turn.saw, x.turn.memory, more, goes, x.turn.acts, (looked, x.looked, (mid, x.turn.steps, (wants, shown, saw, h)))));
        seats_play = seats_after plays old seats seats_then p.turns t p.seats_play p.seats_stay x.turn.plays_seat x.turn.stays x.turn.others;
        seats_stay = stay_after plays old seats seats_then p.turns t p.seats_play p.seats_stay x.turn.plays_seat x.turn.stays x.turn.others;
      }

  pub watched : (last : Event) (s : RunningSet) (seats : List (Option G)) (w : W) (goes_on : Bool) (count limit : ℕ)
      → Watching plays before after start first old was last s seats w goes_on count
      → count ≤ limit → WatchedEnd limit last goes_on count
      → IsWatchedPlay plays before after start first old was limit last s seats w
  watched last s seats w goes_on count limit p within ends = record {
    wants = p.wants;
    shown = p.shown;
    saw_first = p.saw_first;
    turns = p.turns;
    told = p.told;
    end = goes_on;
    went = subst (λ (ts : List SeeingTurn). WatchedTurns before after start p.shown first p.wants ts p.told s w goes_on) (append-nil p.turns) (subst (λ (es : List Event). WatchedTurns before after start p.shown first p.wants (p.turns ++ []) es s w goes_on) (append-nil p.told) (p.went [] [] s w goes_on (refl, refl, refl)));
    last_is = p.last_is;
    within = omega (arith, p.counted, within);
    ends = subst (λ (n : ℕ). WatchedEnd limit last goes_on n) (sym p.counted) ends;
    seats_play = p.seats_play;
    seats_stay = p.seats_stay;
  }

-- ---- without the watcher

pub seen_turns : {W : Type 0} (before : W → RunningSet → Move → W → Type 0) (after : W → RunningSet → Event → Bool → W → Type 0) (s : RunningSet) (w : W) (seen : Event) (go : Bool) (ts : List SeeingTurn) (es : List Event) (new : RunningSet) (v : W) (end : Bool)
    → WatchedTurns before after s w seen go ts es new v end → SeeingTurns s seen ts es new
seen_turns before after s w seen go [] [] new v end h = h.0
seen_turns before after s w seen go [] (e ∷ es) new v end h = absurd h
seen_turns before after s w seen go (t ∷ ts) [] new v end h = absurd h
seen_turns before after s w seen go (t ∷ ts) (e ∷ es) new v end h =
    let inner = h.5.2 in
    let rest = inner.2 in
    (h.0, h.1, h.2, h.4, (inner.0, inner.1, seen_turns before after inner.0 rest.1 e rest.0 ts es new v end rest.3))

by_count : (b : Bool) (n : ℕ) → (b ≡ true) ⊎ ((b ≡ false) × (n ≡ n))
by_count true n = inl refl
by_count false n = inr (refl, refl)

module _ {G W : Type 0} (plays : G → List Sight → Type 0) (before : W → RunningSet → Move → W → Type 0) (after : W → RunningSet → Event → Bool → W → Type 0) (start : RunningSet) (root limit : ℕ) (old : List (Option G)) (was : W) (last : Event) (s : RunningSet) (seats : List (Option G)) (w : W)
    (p : IsWatchedPlay plays before after start (event.Resume root []) old was limit last s seats w) (f : ℕ → Bool) (left : List (Option G)) (emptied : (i : ℕ) → slice_get left i ≡ seat_after_close (f i) (slice_get seats i)) where
  seen_play : IsSeeingPlay plays start (event.Resume root []) old (length p.turns) p.told s seats
  seen_play = record {
    turns = p.turns;
    went = seen_turns before after start p.shown (event.Resume root []) p.wants p.turns p.told s w p.end p.went;
    within = omega arith;
    ends = by_count (is_last (last_of (event.Resume root []) p.told)) (length p.turns);
    seats_play = p.seats_play;
    seats_stay = p.seats_stay;
  }

  pub whole_watched : IsWatchedDrive plays before after root limit start old was last s left w
  whole_watched = record {
    wants = p.wants;
    shown = p.shown;
    saw_first = p.saw_first;
    turns = p.turns;
    told = p.told;
    end = p.end;
    went = p.went;
    last_is = p.last_is;
    within = p.within;
    ends = p.ends;
    seats_play = λ i. subst (λ (x : Option (Option G)). SeatSees plays (slice_get old i) x (sights_of i p.turns)) (sym (emptied i)) (seat_empties (λ x. x.made) plays (f i) (slice_get old i) (slice_get seats i) (sights_of i p.turns) (p.seats_play i));
  }

  pub taken_watched : (i : ℕ) → is_taken (slice_get left i) ≡ (is_taken (slice_get old i) && not (f i))
  taken_watched i = taken_after plays start root (length p.turns) old p.told s seats seen_play f left emptied i
