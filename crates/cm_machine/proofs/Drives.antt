-- A drive, turn by turn.
use Rattle.std.proofs.Common.{◌≡◌, ◌≢◌, ℕ, ◌+◌, ◌-◌, ◌<◌, ◌≤◌, ◌⊎◌, inl, inr, ◌==◌, ◌&&◌, Bool, true, false, if◌then◌else◌, List, [], ◌∷◌, ◌++◌, length, Option, Some, None, refl, sym, ap, subst, ◌∙◌, append_assoc, arith}
use Rattle.std.specs.Prelude.{slice_get, not}
use Rattle.std.specs.Option.{option_map}
use Rattle.std.proofs.lemmas.Bool.{eqb-true, eqb-false}
use Rattle.std.proofs.lemmas.List.{append-nil, length-append}
use Rattle.cm_machine_model.specs.declared.frame.Frame.{Frame}
use Rattle.cm_machine_model.specs.declared.event.Event.{Event}
use Rattle.cm_machine_model.specs.declared.event.Event.TheVariants as event
use Rattle.cm_machine_model.specs.declared.moves.Move.{Move}
use Rattle.cm_machine_model.specs.Stack.{actor, top_of}
use Rattle.cm_machine_model.specs.State.{State}
use Rattle.cm_machine_set.specs.Running.{RunningSet}
use Rattle.cm_machine_model.specs.declared.event.Misuse.{Misuse}
use Rattle.cm_machine_model.specs.declared.event.Misuse.TheVariants as misuse
use Rattle.cm_machine_model.specs.Events.{is_last}
use Rattle.cm_machine_model.specs.Run.{misuse_by_closed, misuse_by_stack, misuse_of_begin}
use Rattle.cm_machine_guests.specs.Sights.{Sight}
use Rattle.cm_machine.specs.Player.{last_of, AreStops, TookPart, GoesOnAs, SeatPlaysBy, is_taken, StaysTaken, EndsAt, closes_between, seat_after_close}
use Rattle.cm_machine.specs.Seeing.{SeeingTurn, SeeingTurns, sights_of, SeatSees, IsTurn, IsSeeingDrive, IsSeeingPlay, IsSeeingHalt}

-- ---- seats, whatever an exchange holds

module _ {G X : Type 0} (made : X → Move) (plays : G → List X → Type 0) where
  stops_join : (xs ys : List X) → AreStops made xs → AreStops made ys → AreStops made (xs ++ ys)
  stops_join [] ys h k = k
  stops_join (x ∷ xs) ys h k = (h.0, stops_join xs ys h.1 k)

  join_answered : (g h : G) (xs ys : List X) → TookPart plays g xs → GoesOnAs plays g h xs → TookPart plays h ys → TookPart plays g (xs ++ ys)
  join_answered g h xs ys a b (inl none) = subst (λ (zs : List X). TookPart plays g (xs ++ zs)) (sym none) (rw (append-nil xs) a)
  join_answered g h xs ys a b (inr p) = inr (b ys p)

  -- A seat that took part in two runs of exchanges, one after the other, and held its guest between them.
  pub seat_joins : (a b c : Option (Option G)) (xs ys : List X) → SeatPlaysBy made plays a b xs → StaysTaken a b → SeatPlaysBy made plays b c ys → SeatPlaysBy made plays a c (xs ++ ys)
  seat_joins (Some (Some g)) (Some (Some h)) (Some (Some k)) xs ys p t q =
      (join_answered g h xs ys p.0 p.1 q.0, λ rest r. rw append_assoc (p.1 (ys ++ rest) (q.1 rest r)))
  seat_joins (Some (Some g)) (Some (Some h)) (Some None) xs ys p t q = join_answered g h xs ys p.0 p.1 q
  seat_joins (Some (Some g)) (Some (Some h)) None xs ys p t q = absurd q
  seat_joins (Some (Some g)) (Some None) c xs ys p t q = absurd cc
  seat_joins (Some (Some g)) None c xs ys p t q = absurd p
  seat_joins (Some None) (Some (Some h)) c xs ys p t q = absurd p
  seat_joins (Some None) (Some None) (Some (Some k)) xs ys p t q = absurd q
  seat_joins (Some None) (Some None) (Some None) xs ys p t q = stops_join xs ys p q
  seat_joins (Some None) (Some None) None xs ys p t q = absurd q
  seat_joins (Some None) None c xs ys p t q = absurd p
  seat_joins None (Some b) c xs ys p t q = absurd p
  seat_joins None None (Some c) xs ys p t q = absurd q
  seat_joins None None None xs ys p t q = stops_join xs ys p q

  -- A seat that nothing was asked of.
  pub seat_rests : (a : Option (Option G)) → SeatPlaysBy made plays a a []
  seat_rests (Some (Some g)) = (inl refl, λ rest r. r)
  seat_rests (Some None) = tt
  seat_rests None = tt

  pub seat_empties : (c : Bool) (a b : Option (Option G)) (xs : List X) → SeatPlaysBy made plays a b xs → SeatPlaysBy made plays a (seat_after_close c b) xs
  seat_empties false a b xs p = p
  seat_empties true a None xs p = p
  seat_empties true (Some (Some g)) (Some (Some h)) xs p = p.0
  seat_empties true (Some (Some g)) (Some None) xs p = p
  seat_empties true (Some None) (Some (Some h)) xs p = absurd p
  seat_empties true (Some None) (Some None) xs p = p
  seat_empties true None (Some b) xs p = absurd p

pub taken_empties : {G : Type 0} (c : Bool) (a : Option (Option G)) → is_taken (seat_after_close c a) ≡ (is_taken a && not c)
taken_empties true (Some (Some g)) = refl
taken_empties true (Some None) = refl
taken_empties true None = refl
taken_empties false (Some (Some g)) = refl
taken_empties false (Some None) = refl
taken_empties false None = refl

-- ---- turns

pub last_of_more : (first : Event) (told : List Event) (e : Event) → last_of first (told ++ e ∷ []) ≡ e
last_of_more first [] e = refl
last_of_more first (x ∷ xs) e = last_of_more x xs e

sights_more : (i : ℕ) (ts us : List SeeingTurn) → sights_of i (ts ++ us) ≡ sights_of i ts ++ sights_of i us
sights_more i [] us = refl
sights_more i (t ∷ ts) us = by_test (t.by == i) (sights_more i ts us)
  where
    by_test : (b : Bool) → sights_of i (ts ++ us) ≡ sights_of i ts ++ sights_of i us → (if b then t.sight ∷ sights_of i (ts ++ us) else sights_of i (ts ++ us)) ≡ (if b then t.sight ∷ sights_of i ts else sights_of i ts) ++ sights_of i us
    by_test true e = ap (λ (xs : List Sight). t.sight ∷ xs) e
    by_test false e = e

-- what holds in mid-drive
pub record Playing {G : Type 0} (plays : G → List Sight → Type 0) (start : RunningSet) (first : Event) (old_seats : List (Option G)) (told : List Event) (s : RunningSet) (seats : List (Option G)) (count : ℕ) : Type 0 where
  pub turns : List SeeingTurn
  pub counted : length turns ≡ count
  pub went : (ts : List SeeingTurn) (es : List Event) (new : RunningSet) → SeeingTurns s (last_of first told) ts es new → SeeingTurns start first (turns ++ ts) (told ++ es) new
  pub seats_play : (i : ℕ) → SeatSees plays (slice_get old_seats i) (slice_get seats i) (sights_of i turns)
  pub seats_stay : (i : ℕ) → StaysTaken (slice_get old_seats i) (slice_get seats i)

pub begins_playing : {G : Type 0} (plays : G → List Sight → Type 0) (start : RunningSet) (first : Event) (seats : List (Option G)) → Playing plays start first seats [] start seats 0
begins_playing plays start first seats = record {
  turns = [];
  counted = refl;
  went = λ ts es new h. h;
  seats_play = λ i. seat_rests (λ x. x.made) plays (slice_get seats i);
  seats_stay = λ i. refl;
}

-- the seats after one turn
module _ {G : Type 0} (plays : G → List Sight → Type 0) (old mid new : List (Option G)) (turns : List SeeingTurn) (t : SeeingTurn)
    (before : (i : ℕ) → SeatSees plays (slice_get old i) (slice_get mid i) (sights_of i turns))
    (kept : (i : ℕ) → StaysTaken (slice_get old i) (slice_get mid i))
    (asked : SeatSees plays (slice_get mid t.by) (slice_get new t.by) (t.sight ∷ []))
    (asked_stays : StaysTaken (slice_get mid t.by) (slice_get new t.by))
    (others : (i : ℕ) → i ≢ t.by → slice_get new i ≡ slice_get mid i) where
  at_one : (i : ℕ) (b : Bool) → (t.by == i) ≡ b → SeatSees plays (slice_get mid i) (slice_get new i) (if b then t.sight ∷ [] else [])
  at_one i true is = let same : t.by ≡ i = eqb-true t.by i is in subst (λ (j : ℕ). SeatSees plays (slice_get mid j) (slice_get new j) (t.sight ∷ [])) same asked
  at_one i false is =
      let other : i ≢ t.by = λ e. eqb-false t.by i is (sym e) in
      subst (λ (x : Option (Option G)). SeatSees plays (slice_get mid i) x []) (sym (others i other)) (seat_rests (λ x. x.made) plays (slice_get mid i))

  stays_one : (i : ℕ) (b : Bool) → (t.by == i) ≡ b → StaysTaken (slice_get mid i) (slice_get new i)
  stays_one i true is = let same : t.by ≡ i = eqb-true t.by i is in subst (λ (j : ℕ). StaysTaken (slice_get mid j) (slice_get new j)) same asked_stays
  stays_one i false is =
      let other : i ≢ t.by = λ e. eqb-false t.by i is (sym e) in
      ap is_taken (others i other)

  pub seats_after : (i : ℕ) → SeatSees plays (slice_get old i) (slice_get new i) (sights_of i (turns ++ t ∷ []))
  seats_after i =
      rw (sights_more i turns (t ∷ [])) (seat_joins (λ x. x.made) plays (slice_get old i) (slice_get mid i) (slice_get new i) (sights_of i turns) (sights_of i (t ∷ [])) (before i) (kept i) (at_one i (t.by == i) refl))

  pub stay_after : (i : ℕ) → StaysTaken (slice_get old i) (slice_get new i)
  stay_after i = stays_one i (t.by == i) refl ∙ kept i

-- one more turn
pub plays_on : {G : Type 0} (plays : G → List Sight → Type 0) (start : RunningSet) (first : Event) (old : List (Option G)) (told : List Event) (s : RunningSet) (seats : List (Option G)) (count : ℕ)
    → Playing plays start first old told s seats count
    → (seen e : Event) (mid : RunningSet) (after : List (Option G))
    → last_of first told ≡ seen → is_last seen ≡ false → IsTurn plays s seen seats e mid after
    → Playing plays start first old (told ++ e ∷ []) mid after (count + 1)
plays_on plays start first old told s seats count p seen e mid after saw more x =
    let t : SeeingTurn = x.turn in
    record {
      turns = p.turns ++ t ∷ [];
      counted = length-append p.turns (t ∷ []) ∙ omega (arith, p.counted);
      went = λ ts es new h.
          let rest : SeeingTurns mid e ts es new = subst (λ (y : Event). SeeingTurns mid y ts es new) (last_of_more first told e) h in
          let here : SeeingTurns s (last_of first told) (t ∷ ts) (e ∷ es) new = (x.saw ∙ sym saw, x.memory, subst (λ (y : Event). is_last y ≡ false) (sym saw) more, x.acts, (mid, x.steps, rest)) in
          rw (append_assoc, append_assoc) (p.went (t ∷ ts) (e ∷ es) new here);
      seats_play = seats_after plays old seats after p.turns t p.seats_play p.seats_stay x.plays_seat x.stays x.others;
      seats_stay = stay_after plays old seats after p.turns t p.seats_play p.seats_stay x.plays_seat x.stays x.others;
    }

-- ---- the last event of a list

pub last_there : (first : Event) (told : List Event) → slice_get (first ∷ told) (length told) ≡ Some (last_of first told)
last_there first [] = refl
last_there first (x ∷ xs) = last_there x xs

pub last_at : (events : List Event) (first : Event) (told : List Event) → events ≡ first ∷ told → slice_get events (length events - 1) ≡ Some (last_of first told)
last_at events first told is =
    let long : length events - 1 ≡ length told = omega (arith, ap length is) in
    ap (λ n. slice_get events n) long ∙ ap (λ (xs : List Event). slice_get xs (length told)) is ∙ last_there first told

pub last_pushed : (events : List Event) (e first : Event) (told : List Event) → events ++ e ∷ [] ≡ first ∷ told → last_of first told ≡ e
last_pushed [] e first told is =
    let head : e ≡ first = cc in
    let tail : [] ≡ told = cc in
    subst (λ (xs : List Event). last_of first xs ≡ e) tail (sym head)
last_pushed (x ∷ xs) e first told is =
    let head : x ≡ first = cc in
    let tail : xs ++ e ∷ [] ≡ told = cc in
    subst (λ (ys : List Event). last_of first ys ≡ e) tail (last_of_more first xs e)

-- ---- where a drive ends

by_limit : (b : Bool) (limit moves : ℕ) → moves ≡ limit → (b ≡ true) ⊎ ((b ≡ false) × (moves ≡ limit))
by_limit true limit moves is = inl refl
by_limit false limit moves is = inr (refl, is)

module _ {G : Type 0} (plays : G → List Sight → Type 0) (start : RunningSet) (first : Event) (old : List (Option G)) (limit : ℕ) (told : List Event) (s : RunningSet) (seats : List (Option G)) (count : ℕ) (p : Playing plays start first old told s seats count) where
  whole : SeeingTurns start first p.turns told s
  whole = subst (λ (ts : List SeeingTurn). SeeingTurns start first ts told s) (append-nil p.turns) (subst (λ (es : List Event). SeeingTurns start first (p.turns ++ []) es s) (append-nil told) (p.went [] [] s refl))

  ended_at : count ≤ limit → EndsAt limit (last_of first told) (length p.turns) → IsSeeingPlay plays start first old limit told s seats
  ended_at within ends = record {
    turns = p.turns;
    went = whole;
    within = omega (arith, p.counted, within);
    ends = ends;
    seats_play = p.seats_play;
    seats_stay = p.seats_stay;
  }

  pub stops_over : count ≤ limit → is_last (last_of first told) ≡ true → IsSeeingPlay plays start first old limit told s seats
  stops_over within last = ended_at within (inl last)

  pub runs_out : count ≡ limit → IsSeeingPlay plays start first old limit told s seats
  runs_out is = ended_at (omega (arith, is)) (by_limit (is_last (last_of first told)) limit (length p.turns) (p.counted ∙ is))

  pub halts_at : is_last (last_of first told) ≡ false → count ≤ limit → IsSeeingHalt plays start first old limit s seats
  halts_at more within = record {
    turns = p.turns;
    told = told;
    went = whole;
    not_last = more;
    within = omega (arith, p.counted, within);
    seats_play = p.seats_play;
    seats_stay = p.seats_stay;
  }

pub somebody_acts : (stack : List Frame) → 0 < length stack → option_map actor (top_of stack) ≡ None → ⊥
somebody_acts [] some none = absurd (omega arith)
somebody_acts (f ∷ fs) some none = cc

-- the last event, of a list that is the same
pub last_seen : (items events : List Event) (o : Option Event) → items ≡ events → o ≡ slice_get items (length items - 1) → slice_get events (length events - 1) ≡ o
last_seen items events o same is = sym (is ∙ ap (λ (xs : List Event). slice_get xs (length xs - 1)) same)

pub some_last : (events : List Event) (first : Event) (told : List Event) → events ≡ first ∷ told → slice_get events (length events - 1) ≡ None → ⊥
some_last events first told is none = let there = last_at events first told is in cc

pub last_is_seen : (events : List Event) (seen : Event) → slice_get events (length events - 1) ≡ Some seen → (first : Event) (told : List Event) → events ≡ first ∷ told → last_of first told ≡ seen
last_is_seen events seen there first told is = let here = last_at events first told is in cc

-- ---- the whole drive

module _ {G : Type 0} (plays : G → List Sight → Type 0) (start : RunningSet) (root limit : ℕ) (old : List (Option G)) (told : List Event) (s : RunningSet) (seats : List (Option G)) (p : IsSeeingPlay plays start (event.Resume root []) old limit told s seats) (f : ℕ → Bool) (left : List (Option G)) (emptied : (i : ℕ) → slice_get left i ≡ seat_after_close (f i) (slice_get seats i)) where
  pub whole_drive : (events : List Event) → events ≡ event.Resume root [] ∷ told → IsSeeingDrive plays root limit start old events s left
  whole_drive events is = record {
    turns = p.turns;
    told = told;
    events_are = is;
    went = p.went;
    within = p.within;
    ends = p.ends;
    seats_play = λ i. subst (λ (x : Option (Option G)). SeatSees plays (slice_get old i) x (sights_of i p.turns)) (sym (emptied i)) (seat_empties (λ x. x.made) plays (f i) (slice_get old i) (slice_get seats i) (sights_of i p.turns) (p.seats_play i));
  }

  pub taken_after : (i : ℕ) → is_taken (slice_get left i) ≡ (is_taken (slice_get old i) && not (f i))
  taken_after i = ap is_taken (emptied i) ∙ taken_empties (f i) (slice_get seats i) ∙ ap (λ b. b && not (f i)) (p.seats_stay i)

pub closed_same : (a b c d : List Bool) → a ≡ b → c ≡ d → (i : ℕ) → closes_between a c i ≡ closes_between b d i
closed_same a b c d p q i = ap (λ (x : List Bool). closes_between x c i) p ∙ ap (λ (x : List Bool). closes_between b x i) q

-- ---- a drive that finds no memory

pub halts_first : {G : Type 0} (plays : G → List Sight → Type 0) (start : RunningSet) (first : Event) (old : List (Option G)) (limit : ℕ) → is_last first ≡ false → IsSeeingHalt plays start first old limit start old
halts_first plays start first old limit more = record {
  turns = [];
  told = [];
  went = refl;
  not_last = more;
  within = omega arith;
  seats_play = λ i. seat_rests (λ x. x.made) plays (slice_get old i);
  seats_stay = λ i. refl;
}

pub over_at : (events : List Event) (first : Event) (told : List Event) (o : Option Event) → events ≡ first ∷ told → o ≡ slice_get events (length events - 1) → o ≡ Some (last_of first told)
over_at events first told o is seen = seen ∙ last_at events first told is

not_memory_by_closed : (o : Option Bool) → misuse_by_closed o ≡ Some misuse.Memory → ⊥
not_memory_by_closed None e = cc
not_memory_by_closed (Some true) e = cc
not_memory_by_closed (Some false) e = cc

not_memory_by_stack : (fs : List Frame) (o : Option Bool) → misuse_by_stack fs (misuse_by_closed o) ≡ Some misuse.Memory → ⊥
not_memory_by_stack [] o e = not_memory_by_closed o e
not_memory_by_stack (f ∷ fs) o e = cc

-- no begin is refused for want of memory
pub begin_not_memory : (s : State) (i : ℕ) (m : Misuse) → misuse_of_begin s i ≡ Some m → m ≡ misuse.Memory → ⊥
begin_not_memory s i m e is = not_memory_by_stack s.stack (slice_get s.closed i) (e ∙ ap Some is)
