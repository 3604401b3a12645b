-- What is written as far as a front goes.
use Rattle.std.proofs.Common.{◌≡◌, ◌≤◌, ℕ, zero, suc, List, [], ◌∷◌, ◌++◌, length, take, Option, Some, None, refl, sym, ap, ◌∙◌, append_assoc, append-nil, Result, Ok, Err, OnOk}
use Rattle.std.proofs.lemmas.List.{take-append-le}
use Rattle.std.specs.declared.alloc.AllocError.{AllocError}
use Rattle.cm_values.specs.Written.{front}
use Rattle.cm_values.specs.Spelling.{in_marks}

front_in : (n : ℕ) (xs ys : List ℕ) → take n (take n xs ++ ys) ≡ take n (xs ++ ys)
front_in zero xs ys = refl
front_in (suc n) [] ys = refl
front_in (suc n) (x ∷ xs) ys = ap (λ (z : List ℕ). x ∷ z) (front_in n xs ys)

-- what stands behind the front makes no difference
front_again : (r : Option ℕ) (xs ys : List ℕ) → front r (front r xs ++ ys) ≡ front r (xs ++ ys)
front_again None xs ys = refl
front_again (Some n) xs ys = front_in n xs ys

-- what is put behind texts of one front
pub behind : (r : Option ℕ) (xs ys more : List ℕ) → front r xs ≡ front r ys → front r (xs ++ more) ≡ front r (ys ++ more)
behind r xs ys more e = sym (front_again r xs more) ∙ (ap (λ (z : List ℕ). front r (z ++ more)) e ∙ front_again r ys more)

-- one text was put behind another
pub shown_then : (r : Option ℕ) (a b c p q : List ℕ) → front r b ≡ front r (a ++ p) → front r c ≡ front r (b ++ q) → front r c ≡ front r (a ++ (p ++ q))
shown_then r a b c p q e f = f ∙ (behind r b (a ++ p) q e ∙ ap (front r) (append_assoc a p q))

-- a text was put between two marks
pub shown_in_marks : (r : Option ℕ) (first inner last a b c d : List ℕ) → b ≡ a ++ first → front r c ≡ front r (b ++ inner) → d ≡ c ++ last → front r d ≡ front r (a ++ in_marks first last inner)
shown_in_marks r first inner last a b c d e f g = shown_then r a b d first (inner ++ last) (ap (front r) e) (shown_then r b c d inner last f (ap (front r) g))

pub shows_in_marks : (r : Option ℕ) (first inner last a b c d : List ℕ) (result : Result (Unit {0}) AllocError) → b ≡ a ++ first → front r c ≡ front r (b ++ inner) → OnOk result (d ≡ c ++ last) → OnOk result (front r d ≡ front r (a ++ in_marks first last inner))
shows_in_marks r first inner last a b c d (Ok x) e f g = shown_in_marks r first inner last a b c d e f g
shows_in_marks r first inner last a b c d (Err x) e f g = g

-- all of a text was put, which is another's
pub shows_all : (r : Option ℕ) (a b p q : List ℕ) (result : Result (Unit {0}) AllocError) → OnOk result (b ≡ a ++ p) → p ≡ q → OnOk result (front r b ≡ front r (a ++ q))
shows_all r a b p q (Ok x) e f = ap (front r) (e ∙ ap (λ (z : List ℕ). a ++ z) f)
shows_all r a b p q (Err x) e f = e

-- what was put is another's text too
pub shows_same : (r : Option ℕ) (a b p q : List ℕ) (result : Result (Unit {0}) AllocError) → OnOk result (front r b ≡ front r (a ++ p)) → p ≡ q → OnOk result (front r b ≡ front r (a ++ q))
shows_same r a b p q (Ok x) e f = e ∙ ap (λ (z : List ℕ). front r (a ++ z)) f
shows_same r a b p q (Err x) e f = e

-- nothing was to be put
pub shown_nothing : (r : Option ℕ) (a p : List ℕ) → p ≡ [] → front r a ≡ front r (a ++ p)
shown_nothing r a p e = ap (front r) (sym (append-nil a) ∙ ap (λ (z : List ℕ). a ++ z) (sym e))

-- the front is full
pub shown_full : (n : ℕ) (a p : List ℕ) → n ≤ length a → take n a ≡ take n (a ++ p)
shown_full n a p le = sym (take-append-le n a p le)

pub ruleset front_laws = (shown_full, shown_then)
