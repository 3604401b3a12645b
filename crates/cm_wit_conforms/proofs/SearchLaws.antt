-- The first entry that passes a test, by its place.
use Rattle.std.proofs.Common.{◌≡◌, ℕ, zero, suc, ◌+◌, ◌≤◌, Bool, true, false, cond, List, [], ◌∷◌, ◌++◌, length, inl, inr, Option, Some, None, refl, sym, ap, ◌∙◌, arith}
use Rattle.std.specs.List.{position_from, slice_get}
use Rattle.std.proofs.lemmas.Bool.{cases_Bool}
use Rattle.cm_lemmas.proofs.Options.{some_is as some_element, some_turned}
use Rattle.cm_lemmas.proofs.Bools.{true_not_false}

-- ---- places in lists that are joined

pub get_back : {E : Type 0} (xs ys : List E) (p n : ℕ) → n ≡ length xs + p → slice_get (xs ++ ys) n ≡ slice_get ys p
get_back {E} [] ys p n e =
    let same : n ≡ p = omega (arith, e) in
    ap (slice_get ys) same
get_back (x ∷ xs) ys p zero e = absurd (omega (arith, e))
get_back (x ∷ xs) ys p (suc n) e = get_back xs ys p n (omega (arith, e))

-- ---- the first

-- It is the k-th, passes, and none before it does.
pub record IsFirst {E : Type 0} (t : E → Bool) (xs : List E) (k : ℕ) : Type 0 where
  pub entry : E
  pub here : slice_get xs k ≡ Some entry
  pub passes : t entry ≡ true
  pub least : (m : ℕ) (d : E) → slice_get xs m ≡ Some d → t d ≡ true → k ≤ m

pub first_found : {E : Type 0} (t : E → Bool) (i : ℕ) (xs : List E) (n : ℕ) → position_from t i xs ≡ Some n → (k : ℕ) × (n ≡ i + k) × IsFirst t xs k
first_found t i [] n h = absurd cc
first_found {E} t i (x ∷ xs) n h = elim (cases_Bool (t x)) [
  | inl y ↦
      let is : n ≡ i = some_turned i n (sym (ap (λ (b : Bool). cond b (Some i) (position_from t (i + 1) xs)) y) ∙ h) in
      (zero, omega (arith, is), record { entry = x; here = refl; passes = y; least = λ m d g p. omega arith })
  | inr fails ↦
      let f = first_found t (i + 1) xs n (sym (ap (λ (b : Bool). cond b (Some i) (position_from t (i + 1) xs)) fails) ∙ h) in
      (suc f.0, omega (arith, f.1), record { entry = f.2.entry; here = f.2.here; passes = f.2.passes; least = behind f.0 fails f.2.least })
]
  where
    behind : (k : ℕ) → t x ≡ false → ((m : ℕ) (d : E) → slice_get xs m ≡ Some d → t d ≡ true → k ≤ m) → (m : ℕ) (d : E) → slice_get (x ∷ xs) m ≡ Some d → t d ≡ true → suc k ≤ m
    behind k fails least zero d g p = absurd (true_not_false (sym p ∙ (sym (ap t (some_element x d g)) ∙ fails)))
    behind k fails least (suc m) d g p = let le : k ≤ m = least m d g p in omega (arith, le)

some_none : (i : ℕ) → (let o : Option ℕ = Some i in o) ≡ None → ⊥
some_none i e = cc

pub none_found : {E : Type 0} (t : E → Bool) (i : ℕ) (xs : List E) → position_from t i xs ≡ None → (m : ℕ) (d : E) → slice_get xs m ≡ Some d → t d ≡ true → ⊥
none_found t i [] h m d g p = absurd cc
none_found {E} t i (x ∷ xs) h zero d g p =
    let passes : t x ≡ true = ap t (some_element x d g) ∙ p in
    some_none i (sym (ap (λ (b : Bool). cond b (Some i) (position_from t (i + 1) xs)) passes) ∙ h)
none_found {E} t i (x ∷ xs) h (suc m) d g p = elim (cases_Bool (t x)) [
  | inl y ↦ absurd (some_none i (sym (ap (λ (b : Bool). cond b (Some i) (position_from t (i + 1) xs)) y) ∙ h))
  | inr fails ↦ none_found t (i + 1) xs (sym (ap (λ (b : Bool). cond b (Some i) (position_from t (i + 1) xs)) fails) ∙ h) m d g p
]

-- what is found stays found where more stands behind
pub found_still : {E : Type 0} (t : E → Bool) (i : ℕ) (xs ys : List E) (n : ℕ) → position_from t i xs ≡ Some n → position_from t i (xs ++ ys) ≡ Some n
found_still t i [] ys n h = absurd cc
found_still {E} t i (x ∷ xs) ys n h = elim (cases_Bool (t x)) [
  | inl y ↦
      ap (λ (b : Bool). cond b (Some i) (position_from t (i + 1) (xs ++ ys))) y
      ∙ (sym (ap (λ (b : Bool). cond b (Some i) (position_from t (i + 1) xs)) y) ∙ h)
  | inr fails ↦
      ap (λ (b : Bool). cond b (Some i) (position_from t (i + 1) (xs ++ ys))) fails
      ∙ found_still t (i + 1) xs ys n (sym (ap (λ (b : Bool). cond b (Some i) (position_from t (i + 1) xs)) fails) ∙ h)
]

pub found_behind : {E : Type 0} (t : E → Bool) (i : ℕ) (xs ys : List E) → position_from t i xs ≡ None → position_from t i (xs ++ ys) ≡ position_from t (i + length xs) ys
found_behind t i [] ys h = ap (λ (j : ℕ). position_from t j ys) (omega arith)
found_behind {E} t i (x ∷ xs) ys h = elim (cases_Bool (t x)) [
  | inl y ↦ absurd (some_none i (sym (ap (λ (b : Bool). cond b (Some i) (position_from t (i + 1) xs)) y) ∙ h))
  | inr fails ↦
      ap (λ (b : Bool). cond b (Some i) (position_from t (i + 1) (xs ++ ys))) fails
      ∙ (found_behind t (i + 1) xs ys (sym (ap (λ (b : Bool). cond b (Some i) (position_from t (i + 1) xs)) fails) ∙ h)
      ∙ ap (λ (j : ℕ). position_from t j ys) (omega arith))
]
