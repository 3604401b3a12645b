-- A drive of guests that do not look at their memory, as a drive of guests that see it.
use Rattle.std.proofs.Common.{◌≡◌, ℕ, ◌≤◌, ◌==◌, inl, inr, Result, Err, Ok, Bool, true, false, if◌then◌else◌, List, [], ◌∷◌, ◌++◌, length, Option, Some, None, refl, sym, ap, subst, ◌∙◌}
use Rattle.std.specs.Prelude.{IfErr, map, slice_get}
use Rattle.std.proofs.lemmas.List.{map-append, length-map}
use Rattle.cm_machine_model.specs.declared.event.Event.{Event}
use Rattle.cm_machine_model.specs.declared.event.Event.TheVariants as event
use Rattle.cm_machine_model.specs.Exchange.{Exchange}
use Rattle.cm_machine_set.specs.Running.{RunningSet}
use Rattle.cm_machine_guests.specs.Sights.{Sight, exchange_of}
use Rattle.cm_machine.specs.Player.{Turn, Turns, exchanges_of, AreStops, TookPart, GoesOnAs, SeatPlays, last_of, EndsAt, IsDrive, IsHalt}
use Rattle.cm_machine.specs.Seeing.{SeeingTurn, SeeingTurns, sights_of, SeatSees, IsSeeingDrive, IsSeeingHalt}

abbrev turn_of : SeeingTurn → Turn
turn_of t = record { by = t.by; seen = t.sight.seen; made = t.sight.made }

turns_forget : (s : RunningSet) (seen : Event) (ts : List SeeingTurn) (es : List Event) (new : RunningSet) → SeeingTurns s seen ts es new → Turns s seen (map turn_of ts) es new
turns_forget s seen [] [] new h = h
turns_forget s seen [] (e ∷ es) new h = absurd h
turns_forget s seen (t ∷ ts) [] new h = absurd h
turns_forget s seen (t ∷ ts) (e ∷ es) new h =
    let m = h.4 in
    (h.0, h.2, h.3, (m.0, m.1, turns_forget m.0 e ts es new m.2))

sights_forget : (i : ℕ) (ts : List SeeingTurn) → exchanges_of i (map turn_of ts) ≡ map exchange_of (sights_of i ts)
sights_forget i [] = refl
sights_forget i (t ∷ ts) = by_test (t.by == i) (sights_forget i ts)
  where
    by_test : (b : Bool) → exchanges_of i (map turn_of ts) ≡ map exchange_of (sights_of i ts) → (if b then exchange_of t.sight ∷ exchanges_of i (map turn_of ts) else exchanges_of i (map turn_of ts)) ≡ map exchange_of (if b then t.sight ∷ sights_of i ts else sights_of i ts)
    by_test true e = ap (λ (xs : List Exchange). exchange_of t.sight ∷ xs) e
    by_test false e = e

-- exchanges as of a guest that sees an empty memory
abbrev sight_of : Exchange → Sight
sight_of x = record { seen = x.seen; memory = []; made = x.made }

there_and_back : (xs : List Exchange) → map exchange_of (map sight_of xs) ≡ xs
there_and_back [] = refl
there_and_back (x ∷ xs) = ap (λ (ys : List Exchange). x ∷ ys) (there_and_back xs)

stops_forget : (xs : List Sight) → AreStops (λ x. x.made) xs → AreStops (λ x. x.made) (map exchange_of xs)
stops_forget [] h = tt
stops_forget (x ∷ xs) h = (h.0, stops_forget xs h.1)

module _ {G : Type 0} (plays : G → List Exchange → Type 0) where
  took_forgets : (g : G) (xs : List Sight) → TookPart (λ (g : G) (told : List Sight). plays g (map exchange_of told)) g xs → TookPart plays g (map exchange_of xs)
  took_forgets g xs (inl none) = inl (ap (λ (ys : List Sight). map exchange_of ys) none)
  took_forgets g xs (inr p) = inr p

  goes_forgets : (g h : G) (xs : List Sight) → GoesOnAs (λ (g : G) (told : List Sight). plays g (map exchange_of told)) g h xs → GoesOnAs plays g h (map exchange_of xs)
  goes_forgets g h xs on rest p =
      let back : map exchange_of (map sight_of rest) ≡ rest = there_and_back rest in
      let whole : map exchange_of (xs ++ map sight_of rest) ≡ map exchange_of xs ++ rest = map-append exchange_of xs (map sight_of rest) ∙ ap (λ (ys : List Exchange). map exchange_of xs ++ ys) back in
      subst (λ (ys : List Exchange). plays g ys) whole (on (map sight_of rest) (subst (λ (ys : List Exchange). plays h ys) (sym back) p))

  seat_forgets : (a b : Option (Option G)) (xs : List Sight) → SeatSees (λ (g : G) (told : List Sight). plays g (map exchange_of told)) a b xs → SeatPlays plays a b (map exchange_of xs)
  seat_forgets (Some (Some g)) (Some (Some h)) xs p = (took_forgets g xs p.0, goes_forgets g h xs p.1)
  seat_forgets (Some (Some g)) (Some None) xs p = took_forgets g xs p
  seat_forgets (Some (Some g)) None xs p = absurd p
  seat_forgets (Some None) (Some (Some h)) xs p = absurd p
  seat_forgets (Some None) (Some None) xs p = stops_forget xs p
  seat_forgets (Some None) None xs p = absurd p
  seat_forgets None (Some b) xs p = absurd p
  seat_forgets None None xs p = stops_forget xs p

  seats_forget : (old new : List (Option G)) (ts : List SeeingTurn) → ((i : ℕ) → SeatSees (λ (g : G) (told : List Sight). plays g (map exchange_of told)) (slice_get old i) (slice_get new i) (sights_of i ts)) → (i : ℕ) → SeatPlays plays (slice_get old i) (slice_get new i) (exchanges_of i (map turn_of ts))
  seats_forget old new ts h i = subst (λ (xs : List Exchange). SeatPlays plays (slice_get old i) (slice_get new i) xs) (sym (sights_forget i ts)) (seat_forgets (slice_get old i) (slice_get new i) (sights_of i ts) (h i))

  pub drive_forgets : (root limit : ℕ) (start : RunningSet) (old : List (Option G)) (events : List Event) (new : RunningSet) (seats : List (Option G)) → IsSeeingDrive (λ (g : G) (told : List Sight). plays g (map exchange_of told)) root limit start old events new seats → IsDrive plays root limit start old events new seats
  drive_forgets root limit start old events new seats d =
      let long : length (map turn_of d.turns) ≡ length d.turns = length-map d.turns turn_of in
      record {
        turns = map turn_of d.turns;
        told = d.told;
        events_are = d.events_are;
        went = turns_forget start (event.Resume root []) d.turns d.told new d.went;
        within = subst (λ (n : ℕ). n ≤ limit) (sym long) d.within;
        ends = subst (λ (n : ℕ). EndsAt limit (last_of (event.Resume root []) d.told) n) (sym long) d.ends;
        seats_play = seats_forget old seats d.turns d.seats_play;
      }

  pub halt_forgets : (start : RunningSet) (first : Event) (old : List (Option G)) (limit : ℕ) (new : RunningSet) (seats : List (Option G)) → IsSeeingHalt (λ (g : G) (told : List Sight). plays g (map exchange_of told)) start first old limit new seats → IsHalt plays start first old limit new seats
  halt_forgets start first old limit new seats d =
      let long : length (map turn_of d.turns) ≡ length d.turns = length-map d.turns turn_of in
      record {
        turns = map turn_of d.turns;
        told = d.told;
        went = turns_forget start first d.turns d.told new d.went;
        not_last = d.not_last;
        within = subst (λ (n : ℕ). n ≤ limit) (sym long) d.within;
        seats_play = seats_forget old seats d.turns d.seats_play;
        seats_stay = d.seats_stay;
      }

-- what holds of an error
pub if_err_more : {T E : Type 0} (r : Result T E) (P Q : E → Type 0) → IfErr r P → ((e : E) → P e → Q e) → IfErr r Q
if_err_more (Ok v) P Q h f = tt
if_err_more (Err e) P Q h f = f e h
