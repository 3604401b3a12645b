-- Lists, what may be there, and index spaces that grow.
use Rattle.std.proofs.Common.{◌≡◌, ℕ, zero, suc, ◌+◌, List, [], ◌∷◌, ◌++◌, length, Option, Some, None, refl, subst, arith, slice_get}
use Rattle.std.specs.List.{AllByRecursion}
use Rattle.std.specs.Option.{option_map}
use Rattle.cm_lemmas.proofs.Options.{some_is}

-- ---- what may be there

pub mapped : {A B : Type 0} (o : Option A) (f : A → B) (y : B) → option_map f o ≡ Some y → (x : A) × (o ≡ Some x) × (f x ≡ y)
mapped None f y h = cc h
mapped (Some x) f y h = (x, refl, some_is (f x) y h)

-- ---- all of a list

-- what holds of all holds of the last
pub of_last : {A : Type 0} (P : A → Type 0) (xs : List A) (x : A) → AllByRecursion P (xs ++ x ∷ []) → P x
of_last P [] x h = h.0
of_last P (y ∷ ys) x h = of_last P ys x h.1

-- ---- all of a list, by their numbers

abbrev pub AllFrom : {A : Type 0} → (ℕ → A → Type 0) → ℕ → List A → Type 0
AllFrom P n [] = Unit {0}
AllFrom P n (x ∷ xs) = P n x × AllFrom P (suc n) xs

pub from_joined : {A : Type 0} (P : ℕ → A → Type 0) (n : ℕ) (xs ys : List A) → AllFrom P n xs → AllFrom P (n + length xs) ys → AllFrom P n (xs ++ ys)
from_joined P n [] ys h k = subst (λ m. AllFrom P m ys) (omega arith) k
from_joined P n (x ∷ xs) ys h k = (h.0, from_joined P (suc n) xs ys h.1 (subst (λ m. AllFrom P m ys) (omega arith) k))

pub from_weaker : {A : Type 0} (P Q : ℕ → A → Type 0) → ((n : ℕ) (x : A) → P n x → Q n x) → (n : ℕ) (xs : List A) → AllFrom P n xs → AllFrom Q n xs
from_weaker P Q f n [] h = tt {0}
from_weaker P Q f n (x ∷ xs) h = (f n x h.0, from_weaker P Q f (suc n) xs h.1)

pub from_at : {A : Type 0} (P : ℕ → A → Type 0) (n : ℕ) (xs : List A) → AllFrom P n xs → (k : ℕ) (x : A) → slice_get xs k ≡ Some x → P (n + k) x
from_at P n [] h k x e = cc e
from_at P n (y ∷ ys) h zero x e = subst (P (n + zero)) (some_is y x e) (subst (λ m. P m y) (omega arith) h.0)
from_at P n (y ∷ ys) h (suc k) x e = subst (λ m. P m x) (omega arith) (from_at P (suc n) ys h.1 k x e)

-- ---- places

pub get_behind : {A : Type 0} (xs : List A) (x : A) (ys : List A) → slice_get (xs ++ x ∷ ys) (length xs) ≡ Some x
get_behind [] x ys = refl
get_behind (z ∷ zs) x ys = get_behind zs x ys

-- ---- index spaces
