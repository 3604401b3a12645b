-- Emptying seats one after the other.
use Rattle.std.proofs.Common.{◌≡◌, ◌≢◌, ℕ, ◌+◌, ◌<◌, ◌≤◌, Bool, true, false, List, length, Option, Some, None, refl, sym, ap, subst, ◌∙◌, arith, below_more}
use Rattle.std.specs.Prelude.{slice_get, slice_set, nat_lt}
use borrow.Author.Tests.{ltb-true, ltb-false}
use Rattle.std.proofs.lemmas.Option.{slice_get_past}
use Rattle.std.proofs.Math.ListN.{length-set}
use Rattle.cm_machine.specs.Player.{seat_after_close}
use Rattle.cm_lemmas.proofs.Lists.{get_set_other, get_set_same, item_there}

-- the seats after the seat at i was emptied, where that is due
pub record EmptiedTo {G : Type 0} (f : ℕ → Bool) (old now : List (Option G)) (i : ℕ) : Type 0 where
  pub done : (k : ℕ) → k < i → slice_get now k ≡ seat_after_close (f k) (slice_get old k)
  pub rest : (k : ℕ) → i ≤ k → slice_get now k ≡ slice_get old k

empties_here : {G : Type 0} (now old : List (Option G)) (i : ℕ) → i < length now → slice_get now i ≡ slice_get old i → slice_get (slice_set now i None) i ≡ seat_after_close true (slice_get old i)
empties_here now old i lt same =
    let there = item_there now i lt in
    let was : slice_get old i ≡ Some there.0 = sym same ∙ there.1 in
    get_set_same now i None lt ∙ sym (ap (seat_after_close true) was)

pub empties_on : {G : Type 0} (f : ℕ → Bool) (old now : List (Option G)) (i : ℕ) → EmptiedTo f old now i → i < length now → f i ≡ true → EmptiedTo f old (slice_set now i None) (i + 1)
empties_on f old now i e lt is = record {
  done = below_more _ _ (λ k below. let ne : k ≢ i = omega arith in get_set_other now i k None ne ∙ e.done k below)
      (subst (λ (b : Bool). slice_get (slice_set now i None) i ≡ seat_after_close b (slice_get old i)) (sym is) (empties_here now old i lt (e.rest i (omega arith))));
  rest = λ k above. let ne : k ≢ i = omega arith in get_set_other now i k None ne ∙ e.rest k (omega arith);
}

pub keeps_on : {G : Type 0} (f : ℕ → Bool) (old now : List (Option G)) (i : ℕ) → EmptiedTo f old now i → f i ≡ false → EmptiedTo f old now (i + 1)
keeps_on f old now i e is = record {
  done = below_more _ _ e.done (subst (λ (b : Bool). slice_get now i ≡ seat_after_close b (slice_get old i)) (sym is) (e.rest i (omega arith)));
  rest = λ k above. e.rest k (omega arith);
}

nothing_there : {G : Type 0} (b : Bool) → seat_after_close {G = G} b None ≡ None
nothing_there true = refl
nothing_there false = refl

-- all seats, those past the end too
all_of : {G : Type 0} (f : ℕ → Bool) (old now : List (Option G)) (i : ℕ) → EmptiedTo f old now i → length old ≤ i → (k : ℕ) → (b : Bool) → nat_lt k i ≡ b → slice_get now k ≡ seat_after_close (f k) (slice_get old k)
all_of f old now i e long k true is = e.done k (ltb-true k i is)
all_of f old now i e long k false is =
    let over : i ≤ k = ltb-false k i is in
    let none : slice_get old k ≡ None = slice_get_past old k (omega arith) in
    e.rest k over ∙ none ∙ sym (ap (seat_after_close (f k)) none ∙ nothing_there (f k))

pub all_emptied : {G : Type 0} (f : ℕ → Bool) (old now : List (Option G)) (i : ℕ) → EmptiedTo f old now i → length old ≤ i → (k : ℕ) → slice_get now k ≡ seat_after_close (f k) (slice_get old k)
all_emptied f old now i e long k = all_of f old now i e long k (nat_lt k i) refl

-- one turn of the loop over the seats
pub record EmptiedNext {G : Type 0} (f : ℕ → Bool) (old next : List (Option G)) (i : ℕ) : Type 0 where
  pub done : (k : ℕ) → k < i → slice_get next k ≡ seat_after_close (f k) (slice_get old k)
  pub rest : (k : ℕ) → i ≤ k → slice_get next k ≡ slice_get old k
  pub long : length next ≡ length old

pub turn_empties : (G : Type 0) (f : ℕ → Bool) (old now next : List (Option G)) (i : ℕ) → EmptiedTo f old now i → i < length now → f i ≡ true → length now ≡ length old → next ≡ slice_set now i None → EmptiedNext f old next (i + 1)
turn_empties G f old now next i e lt is long same =
    let on = empties_on f old now i e lt is in
    subst (λ (xs : List (Option G)). EmptiedNext f old xs (i + 1)) (sym same) (record { done = on.done; rest = on.rest; long = length-set now i None ∙ long })

pub turn_keeps : (G : Type 0) (f : ℕ → Bool) (old now next : List (Option G)) (i : ℕ) → EmptiedTo f old now i → f i ≡ false → length now ≡ length old → next ≡ now → EmptiedNext f old next (i + 1)
turn_keeps G f old now next i e is long same =
    let on = keeps_on f old now i e is in
    subst (λ (xs : List (Option G)). EmptiedNext f old xs (i + 1)) (sym same) (record { done = on.done; rest = on.rest; long = long })
