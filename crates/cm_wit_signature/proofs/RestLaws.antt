-- Tests of all elements, one after another.
use Rattle.std.proofs.Common.{◌≡◌, ℕ, ◌+◌, ◌<◌, ◌≤◌, Bool, true, false, ◌&&◌, List, [], ◌∷◌, length, map, drop, get_or, refl, sym, ap, ◌∙◌}
use Rattle.std.proofs.lemmas.List.{drop_all}
use Rattle.cm_lemmas.proofs.Lists.{next_element}

-- The test of all is that of the rest, which begins with the i-th.
pub record Rests {A B : Type 0} (view : A → B) (F : ℕ → List B → Bool) (xs : List A) (i : ℕ) : Type 0 where
  pub is : F i (map view (drop i xs)) ≡ F 0 (map view xs)

module _ {A B : Type 0} (view : A → B) (F : ℕ → List B → Bool) (xs : List A) where
  pub rests_start : Rests view F xs 0
  rests_start = record { is = refl }

  cut : (i : ℕ) (x : A) (b : Bool) → i < length xs → x ≡ get_or xs i x → ((ys : List B) → F i (view x ∷ ys) ≡ (b && F (i + 1) ys)) → Rests view F xs i → (b && F (i + 1) (map view (drop (i + 1) xs))) ≡ F 0 (map view xs)
  cut i x b lt e s r = sym (s (map view (drop (i + 1) xs))) ∙ (sym (ap (F i) (next_element view xs i x lt e)) ∙ r.is)

  pub rests_true : (i : ℕ) (x : A) (b : Bool) → i < length xs → x ≡ get_or xs i x → ((ys : List B) → F i (view x ∷ ys) ≡ (b && F (i + 1) ys)) → b ≡ true → Rests view F xs i → Rests view F xs (i + 1)
  rests_true i x b lt e s t r = record { is = sym (ap (λ (c : Bool). c && F (i + 1) (map view (drop (i + 1) xs))) t) ∙ cut i x b lt e s r }

  pub rests_false : (i : ℕ) (x : A) (b : Bool) → i < length xs → x ≡ get_or xs i x → ((ys : List B) → F i (view x ∷ ys) ≡ (b && F (i + 1) ys)) → b ≡ false → Rests view F xs i → false ≡ F 0 (map view xs)
  rests_false i x b lt e s t r = sym (ap (λ (c : Bool). c && F (i + 1) (map view (drop (i + 1) xs))) t) ∙ cut i x b lt e s r

  pub rests_end : (i : ℕ) → length xs ≤ i → F i [] ≡ true → Rests view F xs i → true ≡ F 0 (map view xs)
  rests_end i le n r = sym n ∙ (sym (ap (λ (ys : List A). F i (map view ys)) (drop_all i xs le)) ∙ r.is)

pub ruleset rest_laws = (rests_start, rests_true, rests_false, rests_end)
