-- Whether one element passes a test, and whether each does, element by element.
use Rattle.std.proofs.Common.{◌≡◌, ℕ, ◌+◌, ◌<◌, ◌≤◌, Bool, true, false, ◌&&◌, ◌||◌, List, length, map, drop, get_or, refl, sym, ap, ◌∙◌}
use Rattle.std.specs.List.{list_all, list_any}
use Rattle.std.proofs.lemmas.List.{drop_all}
use Rattle.cm_lemmas.proofs.Lists.{next_element}

-- ---- one

-- Whether one of all passes is whether one of the rest does.
pub record Seeks {A B : Type 0} (view : A → B) (test : B → Bool) (xs : List A) (i : ℕ) : Type 0 where
  pub is : list_any test (map view xs) ≡ list_any test (map view (drop i xs))

pub seeks_start : {A B : Type 0} (view : A → B) (test : B → Bool) (xs : List A) → Seeks view test xs 0
seeks_start view test xs = record { is = refl }

any_next : {A B : Type 0} (view : A → B) (test : B → Bool) (xs : List A) (i : ℕ) (x : A) (b : Bool) → i < length xs → x ≡ get_or xs i x → b ≡ test (view x) → Seeks view test xs i → list_any test (map view xs) ≡ (b || list_any test (map view (drop (i + 1) xs)))
any_next {A} {B} view test xs i x b lt e t f =
    f.is
    ∙ (ap (list_any test) (next_element view xs i x lt e)
    ∙ ap (λ (c : Bool). c || list_any test (map view (drop (i + 1) xs))) (sym t))

pub seeks_on : {A B : Type 0} (view : A → B) (test : B → Bool) (xs : List A) (i : ℕ) (x : A) (b : Bool) → i < length xs → x ≡ get_or xs i x → b ≡ test (view x) → b ≡ false → Seeks view test xs i → Seeks view test xs (i + 1)
seeks_on view test xs i x b lt e t isnt f = record {
  is = any_next view test xs i x b lt e t f ∙ ap (λ (c : Bool). c || list_any test (map view (drop (i + 1) xs))) isnt;
}

pub seeks_here : {A B : Type 0} (view : A → B) (test : B → Bool) (xs : List A) (i : ℕ) (x : A) (b : Bool) → i < length xs → x ≡ get_or xs i x → b ≡ test (view x) → b ≡ true → Seeks view test xs i → true ≡ list_any test (map view xs)
seeks_here view test xs i x b lt e t is f = sym (any_next view test xs i x b lt e t f ∙ ap (λ (c : Bool). c || list_any test (map view (drop (i + 1) xs))) is)

pub seeks_end : {A B : Type 0} (view : A → B) (test : B → Bool) (xs : List A) (i : ℕ) → length xs ≤ i → Seeks view test xs i → false ≡ list_any test (map view xs)
seeks_end {A} view test xs i le f = sym (f.is ∙ ap (λ (ys : List A). list_any test (map view ys)) (drop_all i xs le))

pub ruleset seek_laws = (seeks_start, seeks_on, seeks_here, seeks_end)

-- ---- each

-- Whether all pass is whether the rest do.
pub record Holds {A B : Type 0} (view : A → B) (test : B → Bool) (xs : List A) (i : ℕ) : Type 0 where
  pub is : list_all test (map view xs) ≡ list_all test (map view (drop i xs))

pub holds_start : {A B : Type 0} (view : A → B) (test : B → Bool) (xs : List A) → Holds view test xs 0
holds_start view test xs = record { is = refl }

all_next : {A B : Type 0} (view : A → B) (test : B → Bool) (xs : List A) (i : ℕ) (x : A) (b : Bool) → i < length xs → x ≡ get_or xs i x → b ≡ test (view x) → Holds view test xs i → list_all test (map view xs) ≡ (b && list_all test (map view (drop (i + 1) xs)))
all_next {A} {B} view test xs i x b lt e t f =
    f.is
    ∙ (ap (list_all test) (next_element view xs i x lt e)
    ∙ ap (λ (c : Bool). c && list_all test (map view (drop (i + 1) xs))) (sym t))

pub holds_on : {A B : Type 0} (view : A → B) (test : B → Bool) (xs : List A) (i : ℕ) (x : A) (b : Bool) → i < length xs → x ≡ get_or xs i x → b ≡ test (view x) → b ≡ true → Holds view test xs i → Holds view test xs (i + 1)
holds_on view test xs i x b lt e t is f = record {
  is = all_next view test xs i x b lt e t f ∙ ap (λ (c : Bool). c && list_all test (map view (drop (i + 1) xs))) is;
}

pub holds_not : {A B : Type 0} (view : A → B) (test : B → Bool) (xs : List A) (i : ℕ) (x : A) (b : Bool) → i < length xs → x ≡ get_or xs i x → b ≡ test (view x) → b ≡ false → Holds view test xs i → false ≡ list_all test (map view xs)
holds_not view test xs i x b lt e t isnt f = sym (all_next view test xs i x b lt e t f ∙ ap (λ (c : Bool). c && list_all test (map view (drop (i + 1) xs))) isnt)

pub holds_all : {A B : Type 0} (view : A → B) (test : B → Bool) (xs : List A) (i : ℕ) → length xs ≤ i → Holds view test xs i → true ≡ list_all test (map view xs)
holds_all {A} view test xs i le f = sym (f.is ∙ ap (λ (ys : List A). list_all test (map view ys)) (drop_all i xs le))

pub ruleset hold_laws = (holds_start, holds_on, holds_not, holds_all)
