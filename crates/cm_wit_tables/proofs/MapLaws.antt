-- Lists made element by element.
use Rattle.std.proofs.Common.{◌≡◌, ℕ, ◌+◌, ◌<◌, ◌≤◌, List, [], ◌∷◌, ◌++◌, length, map, drop, get_or, refl, sym, ap, ◌∙◌, append_assoc, append-nil}
use Rattle.std.proofs.lemmas.List.{drop_all, map-append}
use Rattle.cm_lemmas.proofs.Lists.{next_element}

-- What stands there, and what the rest gives, which begins with the i-th, make all.
pub record Makes {A B D : Type 0} (view : A → B) (F : ℕ → List B → List D) (xs : List A) (i : ℕ) (out : List D) : Type 0 where
  pub is : out ++ F i (map view (drop i xs)) ≡ F 0 (map view xs)

pub makes_none : {A B D : Type 0} (view : A → B) (F : ℕ → List B → List D) (xs : List A) → Makes view F xs 0 []
makes_none view F xs = record { is = refl }

pub makes_join : {A B D : Type 0} (view : A → B) (F : ℕ → List B → List D) (xs : List A) (i : ℕ) (out next part : List D) (x : A) → i < length xs → x ≡ get_or xs i x → next ≡ out ++ part → ((ys : List B) → F i (view x ∷ ys) ≡ part ++ F (i + 1) ys) → Makes view F xs i out → Makes view F xs (i + 1) next
makes_join {A} {B} {D} view F xs i out next part x lt e n s f = record {
  is = ap (λ (l : List D). l ++ F (i + 1) (map view (drop (i + 1) xs))) n
      ∙ (append_assoc out part (F (i + 1) (map view (drop (i + 1) xs)))
      ∙ (sym (ap (λ (l : List D). out ++ l) (s (map view (drop (i + 1) xs))))
      ∙ (sym (ap (λ (ys : List B). out ++ F i ys) (next_element view xs i x lt e)) ∙ f.is)));
}

pub makes_push : {A B D : Type 0} (view : A → B) (F : ℕ → List B → List D) (xs : List A) (i : ℕ) (out : List D) (x : A) (c : D) → i < length xs → x ≡ get_or xs i x → ((ys : List B) → F i (view x ∷ ys) ≡ c ∷ F (i + 1) ys) → Makes view F xs i out → Makes view F xs (i + 1) (out ++ c ∷ [])
makes_push view F xs i out x c lt e s f = makes_join view F xs i out (out ++ c ∷ []) (c ∷ []) x lt e refl s f

pub makes_shown : {A B C D : Type 0} (view : A → B) (F : ℕ → List B → List D) (shown : C → D) (xs : List A) (i : ℕ) (out : List C) (x : A) (c : C) → i < length xs → x ≡ get_or xs i x → ((ys : List B) → F i (view x ∷ ys) ≡ shown c ∷ F (i + 1) ys) → Makes view F xs i (map shown out) → Makes view F xs (i + 1) (map shown (out ++ c ∷ []))
makes_shown view F shown xs i out x c lt e s f = makes_join view F xs i (map shown out) (map shown (out ++ c ∷ [])) (shown c ∷ []) x lt e (map-append shown out (c ∷ [])) s f

pub makes_skip : {A B D : Type 0} (view : A → B) (F : ℕ → List B → List D) (xs : List A) (i : ℕ) (out : List D) (x : A) → i < length xs → x ≡ get_or xs i x → ((ys : List B) → F i (view x ∷ ys) ≡ F (i + 1) ys) → Makes view F xs i out → Makes view F xs (i + 1) out
makes_skip view F xs i out x lt e s f = makes_join view F xs i out out [] x lt e (sym (append-nil out)) s f

pub makes_all : {A B D : Type 0} (view : A → B) (F : ℕ → List B → List D) (xs : List A) (i : ℕ) (out : List D) → length xs ≤ i → F i [] ≡ [] → Makes view F xs i out → out ≡ F 0 (map view xs)
makes_all {A} {B} {D} view F xs i out le none f = sym (append-nil out) ∙ (sym (ap (λ (l : List D). out ++ l) none) ∙ (sym (ap (λ (ys : List A). out ++ F i (map view ys)) (drop_all i xs le)) ∙ f.is))

pub ruleset map_laws = (makes_none, makes_shown, makes_push, makes_skip, makes_all)
