-- The part whose instance has an index.
use Rattle.std.proofs.Common.{◌≡◌, ℕ, ◌+◌, ◌<◌, true, false, List, [], ◌∷◌, ◌++◌, length, get_or, ltb, refl, subst, arith, inl, inr}
use Rattle.std.specs.Prelude.{slice_index, is_some, ◌==◌}
use Rattle.std.specs.Option.{unwrap_or}
use Rattle.std.specs.List.{position_or_len}
use Rattle.std.proofs.lemmas.Bool.{cases_Bool, cases_lt, ltb-true, lt-ltb, ne_eqb}
use Rattle.std.proofs.lemmas.List.{length-append, get_or_append_left, get_or-append-add}
use Rattle.std.proofs.lemmas.List.Sums.{passes_at_first, position_or_len_is}
use Rattle.cm_lemmas.proofs.Numbers.{eq_of, eq_true}
use Rattle.cm_bundle.specs.Grammar.{part_at}

pub found_place : (places : List ℕ) (index : ℕ) → is_some (part_at places index) ≡ true → (unwrap_or (part_at places index) 0 < length places) × (slice_index places (unwrap_or (part_at places index) 0) ≡ index)
found_place places index h =
    let k : ℕ = position_or_len (λ place. place == index) places in
    elim (cases_Bool (ltb k (length places))) [
      | inl t ↦
          let lt : k < length places = ltb-true k (length places) t in
          let hit = passes_at_first (λ place. place == index) places 0 lt in
          rw t (lt, eq_of (get_or places k 0) index hit)
      | inr f ↦ let q = rw f at h in absurd cc
    ]

-- Each place is below those behind it.
abbrev pub Ordered : List ℕ → Type 0
Ordered places = (j k : ℕ) → j < k → k < length places → slice_index places j < slice_index places k

eq_false : (x y : ℕ) → x < y → (x == y) ≡ false
eq_false x y lt = ne_eqb x y (λ q. omega (arith, q, lt))

pub place_found : (places : List ℕ) (k : ℕ) → Ordered places → k < length places → (is_some (part_at places (slice_index places k)) ≡ true) × (unwrap_or (part_at places (slice_index places k)) 0 ≡ k)
place_found places k ordered lt =
    let found : position_or_len (λ place. place == slice_index places k) places ≡ k =
    position_or_len_is (λ place. place == slice_index places k) places k 0 (omega (arith, lt)) (λ j below. eq_false (slice_index places j) (slice_index places k) (ordered j k below lt)) (λ there. eq_true (slice_index places k) (slice_index places k) refl) in
    let t : ltb k (length places) ≡ true = lt-ltb k (length places) lt in
    rw (found, t) (refl, refl)

pub last_place : (places : List ℕ) (next k : ℕ) → k ≡ length places → slice_index (places ++ next ∷ []) k ≡ next
last_place places next k same =
    let last : get_or (places ++ next ∷ []) (length places + 0) 0 ≡ next = get_or-append-add places (next ∷ []) 0 0 in
    let there : length places + 0 ≡ k = omega (arith, same) in
    subst (λ (n : ℕ). get_or (places ++ next ∷ []) n 0 ≡ next) there last

-- One more place behind all others.
pub ordered_push : (places : List ℕ) (next : ℕ) → Ordered places → ((k : ℕ) → k < length places → slice_index places k < next) → Ordered (places ++ next ∷ [])
ordered_push places next ordered below j k lt in_ =
    elim (cases_lt k (length places)) [
      | inl inside ↦ omega (arith, ordered j k lt inside, get_or_append_left places (next ∷ []) 0 k inside, get_or_append_left places (next ∷ []) 0 j (omega (arith, lt, inside)))
      | inr past ↦
          let same : k ≡ length places = omega (arith, length-append places (next ∷ []), in_, past) in
          omega (arith, below j (omega (arith, same, lt)), get_or_append_left places (next ∷ []) 0 j (omega (arith, same, lt)), last_place places next k same)
    ]

-- All places stay below the next instance.
pub pushed_below : (places : List ℕ) (here k : ℕ) → ((j : ℕ) → j < length places → slice_index places j < here) → k < length (places ++ here ∷ []) → slice_index (places ++ here ∷ []) k < here + 1
pushed_below places here k below lt =
    elim (cases_lt k (length places)) [
      | inl inside ↦ omega (arith, below k inside, get_or_append_left places (here ∷ []) 0 k inside)
      | inr past ↦
          let same : k ≡ length places = omega (arith, length-append places (here ∷ []), lt, past) in
          omega (arith, last_place places here k same)
    ]
