-- Lists, and what may be there.
use Rattle.std.proofs.Common.{◌≡◌, ℕ, zero, suc, Bool, List, [], ◌∷◌, ◌++◌, Option, Some, None, refl, sym, ap, subst, inl, inr, filter, slice_get}
use Rattle.std.proofs.lemmas.Bool.{cases_Bool}
use Rattle.std.specs.Prelude.{unwrap_or}
use Rattle.std.specs.List.{AllByRecursion}
use Rattle.std.specs.Option.{option_map}
use Rattle.cm_lemmas.proofs.Options.{some_is}

pub mapped : {A B : Type 0} (o : Option A) (f : A → B) (y : B) → option_map f o ≡ Some y → (x : A) × (o ≡ Some x) × (f x ≡ y)
mapped None f y h = cc h
mapped (Some x) f y h = (x, refl, ap (λ o. unwrap_or o (f x)) h)

-- ---- all of a list

pub all_kept : {A : Type 0} (is_so : A → Type 0) (p : A → Bool) (xs : List A) → AllByRecursion is_so xs → AllByRecursion is_so (filter p xs)
all_kept is_so p [] h = h
all_kept is_so p (x ∷ xs) h = elim (cases_Bool (p x)) [
  | inl y ↦ rw y (h.0, all_kept is_so p xs h.1)
  | inr n ↦ rw n (all_kept is_so p xs h.1)
]

pub all_at : {A : Type 0} (is_so : A → Type 0) (xs : List A) → AllByRecursion is_so xs → (k : ℕ) (x : A) → slice_get xs k ≡ Some x → is_so x
all_at is_so [] h k x e = cc e
all_at is_so (y ∷ ys) h zero x e = subst is_so (some_is y x e) h.0
all_at is_so (y ∷ ys) h (suc k) x e = all_at is_so ys h.1 k x e

-- ---- the first that is not so

abbrev head_or : {A : Type 0} → A → List A → A
head_or x [] = x
head_or x (y ∷ ys) = y

abbrev tail : {A : Type 0} → List A → List A
tail [] = []
tail (y ∷ ys) = ys

pub one_first : {A : Type 0} (is_so : A → Type 0) (a b c d : List A) (x y : A) → a ++ x ∷ c ≡ b ++ y ∷ d → AllByRecursion is_so a → AllByRecursion is_so b
    → (is_so x → ⊥) → (is_so y → ⊥) → x ≡ y
one_first is_so [] [] c d x y e f g h k = ap (head_or x) e
one_first is_so [] (z ∷ b) c d x y e f g h k = absurd (h (subst is_so (sym (ap (head_or x) e)) g.0))
one_first is_so (z ∷ a) [] c d x y e f g h k = absurd (k (subst is_so (ap (head_or z) e) f.0))
one_first is_so (z ∷ a) (w ∷ b) c d x y e f g h k = one_first is_so a b c d x y (ap tail e) f.1 g.1 h k
