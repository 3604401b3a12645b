-- Handing over one thing after another misses nothing.
use Rattle.std.proofs.Common.{◌≡◌, ◌≢◌, ℕ, zero, suc, ◌+◌, ◌-◌, ◌<◌, ◌⊎◌, inl, inr, ◌↔◌, List, [], ◌∷◌, Option, Some, None, slice_index_or, sym, ap, subst, ◌∙◌, arith}
use Rattle.std.specs.Prelude.{Contains}
use Rattle.std.proofs.lemmas.Bool.{cases_eq}
use Rattle.cm_handles.specs.Handles.{Handles, IsDistinct, handle_at, after_release, after_lend, with_lends}
use Rattle.cm_abi_model.specs.Taken.{Met, content, text_content, taken, lent, content_of, taken_of, lent_of, CanGo, IsFree, IsThere, GoesInTurn, AllThere}
use Rattle.cm_handles.proofs.HandlesLaws.{beside_lent, beside_released, lent_there, released}
use Rattle.cm_lemmas.proofs.Lists.{Contains-first, Contains-rest}
use Rattle.cm_handles.proofs.HandleLaws.{none_is, some_is}

-- ---- lists

first_or_rest : (x : ℕ) (xs : List ℕ) (y : ℕ) → Contains (x ∷ xs) y → (x ≡ y) ⊎ Contains xs y
first_or_rest x xs y (zero, within, e) = inl e
first_or_rest x xs y (suc k, within, e) = inr (k, omega (arith, within), e)

in_none : (y : ℕ) → Contains {X = ℕ} [] y → ⊥
in_none y c = omega (arith, c.1)

-- ---- tables

there_lent : (t : Handles) (i j : ℕ) → IsThere t i → IsThere t j → IsThere (after_lend t i) j
there_lent t i j here there = elim (cases_eq j i) [
  | inl same ↦ (with_lends (here.0.lends + 1) here.0, subst (λ k. handle_at (after_lend t i) k ≡ Some (with_lends (here.0.lends + 1) here.0)) (sym same) (lent_there t i here.0 here.1))
  | inr other ↦ (there.0, beside_lent t i j other ∙ there.1)
]

-- ---- from one after another to all

-- an index at which nothing stands is not met
never : (t : Handles) (most : ℕ) (ms : List Met) (i : ℕ) → handle_at t i ≡ None → GoesInTurn t most ms
    → (Contains (taken_of ms) i → ⊥) × (Contains (lent_of ms) i → ⊥)
never t most [] i gone go = (in_none i, in_none i)
never t most (text_content tags n ∷ ms) i gone go = never t (most - n) ms i gone go.1
never t most (content n ∷ ms) i gone go = never t (most - n) ms i gone go.1
never t most (taken j ∷ ms) i gone go =
    let other : i ≢ j = λ e. none_is (sym gone ∙ ap (handle_at t) e ∙ go.0.stands) in
    let later = never (after_release t j) most ms i (beside_released t j i other ∙ gone) go.1 in
    ((λ c. elim (first_or_rest j (taken_of ms) i c) [ inl e ↦ other (sym e) | inr d ↦ later.0 d ]), later.1)
never t most (lent j ∷ ms) i gone go =
    let other : i ≢ j = λ e. none_is (sym gone ∙ ap (handle_at t) e ∙ go.0.1) in
    let later = never (after_lend t j) most ms i (beside_lent t j i other ∙ gone) go.1 in
    (later.0, (λ c. elim (first_or_rest j (lent_of ms) i c) [ inl e ↦ other (sym e) | inr d ↦ later.1 d ]))

to_all : (t : Handles) (most : ℕ) (ms : List Met) → GoesInTurn t most ms → CanGo t most ms
to_all t most [] go = record {
  once = tt {0};
  free = λ i h c e. absurd (in_none i c);
  apart = λ i c d. in_none i c;
  small = omega arith;
}
to_all t most (text_content tags n ∷ ms) go =
    let r = to_all t (most - n) ms go.1 in
    record { once = r.once; free = r.free; apart = r.apart; small = omega (arith, go.0, r.small) }
to_all t most (content n ∷ ms) go =
    let r = to_all t (most - n) ms go.1 in
    record { once = r.once; free = r.free; apart = r.apart; small = omega (arith, go.0, r.small) }
to_all t most (taken i ∷ ms) go =
    let r = to_all (after_release t i) most ms go.1 in
    let no_more = never (after_release t i) most ms i (released t i) go.1 in
    record {
      once = (no_more.0, r.once);
      free = λ j h c e. elim (first_or_rest i (taken_of ms) j c) [
        | inl same ↦ ap (λ x. x.lends) (some_is (sym e ∙ ap (handle_at t) (sym same) ∙ go.0.stands)) ∙ go.0.not_lent
        | inr d ↦ r.free j h d (beside_released t i j (λ same. no_more.0 (subst (Contains (taken_of ms)) same d)) ∙ e)
      ];
      apart = λ j c d. elim (first_or_rest i (taken_of ms) j c) [
        | inl same ↦ no_more.1 (subst (Contains (lent_of ms)) (sym same) d)
        | inr later ↦ r.apart j later d
      ];
      small = r.small;
    }
to_all t most (lent i ∷ ms) go =
    let r = to_all (after_lend t i) most ms go.1 in
    let not_taken : Contains (taken_of ms) i → ⊥ = λ c. omega (arith, r.free i _ c (lent_there t i go.0.0 go.0.1)) in
    record {
      once = r.once;
      free = λ j h c e. r.free j h c (beside_lent t i j (λ same. not_taken (subst (Contains (taken_of ms)) same c)) ∙ e);
      apart = λ j c d. elim (first_or_rest i (lent_of ms) j d) [
        | inl same ↦ not_taken (subst (Contains (taken_of ms)) (sym same) c)
        | inr later ↦ r.apart j c later
      ];
      small = r.small;
    }

-- ---- from all to one after another

there_released : (t : Handles) (i : ℕ) (ms : List Met) → (Contains (taken_of ms) i → ⊥) → (Contains (lent_of ms) i → ⊥) → AllThere t ms
    → AllThere (after_release t i) ms
there_released t i [] a b there = tt {0}
there_released t i (text_content tags n ∷ ms) a b there = there_released t i ms a b there
there_released t i (content n ∷ ms) a b there = there_released t i ms a b there
there_released t i (taken j ∷ ms) a b there =
    let other : j ≢ i = λ e. a (subst (Contains (j ∷ taken_of ms)) e (Contains-first j (taken_of ms))) in
    ((there.0.0, beside_released t i j other ∙ there.0.1), there_released t i ms (λ c. a (Contains-rest j (taken_of ms) i c)) b there.1)
there_released t i (lent j ∷ ms) a b there =
    let other : j ≢ i = λ e. b (subst (Contains (j ∷ lent_of ms)) e (Contains-first j (lent_of ms))) in
    ((there.0.0, beside_released t i j other ∙ there.0.1), there_released t i ms a (λ c. b (Contains-rest j (lent_of ms) i c)) there.1)

all_there_lent : (t : Handles) (i : ℕ) (ms : List Met) → IsThere t i → AllThere t ms → AllThere (after_lend t i) ms
all_there_lent t i [] here there = tt {0}
all_there_lent t i (text_content tags n ∷ ms) here there = all_there_lent t i ms here there
all_there_lent t i (content n ∷ ms) here there = all_there_lent t i ms here there
all_there_lent t i (taken j ∷ ms) here there = (there_lent t i j here there.0, all_there_lent t i ms here there.1)
all_there_lent t i (lent j ∷ ms) here there = (there_lent t i j here there.0, all_there_lent t i ms here there.1)

from_all : (t : Handles) (most : ℕ) (ms : List Met) → AllThere t ms → CanGo t most ms → GoesInTurn t most ms
from_all t most [] there r = tt {0}
from_all t most (text_content tags n ∷ ms) there r = (
  omega (arith, r.small),
  from_all t (most - n) ms there (record { once = r.once; free = r.free; apart = r.apart; small = omega (arith, r.small) }),
)
from_all t most (content n ∷ ms) there r = (
  omega (arith, r.small),
  from_all t (most - n) ms there (record { once = r.once; free = r.free; apart = r.apart; small = omega (arith, r.small) }),
)
from_all t most (taken i ∷ ms) there r =
    let no_taken = r.once.0 in
    let no_lent : Contains (lent_of ms) i → ⊥ = r.apart i (Contains-first i (taken_of ms)) in (
      record { entry = there.0.0; stands = there.0.1; not_lent = r.free i there.0.0 (Contains-first i (taken_of ms)) there.0.1 },
      from_all (after_release t i) most ms (there_released t i ms no_taken no_lent there.1)
          (record {
            once = r.once.1;
            free = λ j h c e. r.free j h (Contains-rest i (taken_of ms) j c) (sym (beside_released t i j (λ same. no_taken (subst (Contains (taken_of ms)) same c))) ∙ e);
            apart = λ j c d. r.apart j (Contains-rest i (taken_of ms) j c) d;
            small = r.small;
          }),
    )
from_all t most (lent i ∷ ms) there r =
    let not_taken : Contains (taken_of ms) i → ⊥ = λ c. r.apart i c (Contains-first i (lent_of ms)) in (
      there.0,
      from_all (after_lend t i) most ms (all_there_lent t i ms there.0 there.1)
          (record {
            once = r.once;
            free = λ j h c e. r.free j h c (sym (beside_lent t i j (λ same. not_taken (subst (Contains (taken_of ms)) same c))) ∙ e);
            apart = λ j c d. r.apart j c (Contains-rest i (lent_of ms) j d);
            small = r.small;
          }),
    )

pub in_turn : (t : Handles) (most : ℕ) (ms : List Met) → AllThere t ms → CanGo t most ms ↔ GoesInTurn t most ms
in_turn t most ms there = (from_all t most ms there, to_all t most ms)
