-- Lists that are made of others, element by element.
use Rattle.std.proofs.Common.{◌≡◌, ℕ, ◌+◌, ◌<◌, ◌≤◌, List, [], ◌∷◌, ◌++◌, length, map, drop, get_or, refl, sym, ap, ◌∙◌, append_assoc, append-nil}
use Rattle.std.proofs.lemmas.List.{drop_all, map-append}
use Rattle.cm_lemmas.proofs.Lists.{next_element}

-- These are shown there, and those of the rest make all.
pub record Rests {A C D : Type 0} (view : A → D) (shown : C → D) (xs : List A) (i : ℕ) (out : List C) : Type 0 where
  pub is : map shown out ++ map view (drop i xs) ≡ map view xs

pub rests_start : {A C D : Type 0} (view : A → D) (shown : C → D) (xs : List A) → Rests view shown xs 0 []
rests_start view shown xs = record { is = refl }

pub rests_push : {A C D : Type 0} (view : A → D) (shown : C → D) (xs : List A) (i : ℕ) (out : List C) (x : A) (c : C) → i < length xs → x ≡ get_or xs i x → view x ≡ shown c → Rests view shown xs i out → Rests view shown xs (i + 1) (out ++ c ∷ [])
rests_push {A} {C} {D} view shown xs i out x c lt e s f = record {
  is = ap (λ (l : List D). l ++ map view (drop (i + 1) xs)) (map-append shown out (c ∷ []))
      ∙ (append_assoc (map shown out) (shown c ∷ []) (map view (drop (i + 1) xs))
      ∙ (sym (ap (λ (y : D). map shown out ++ y ∷ map view (drop (i + 1) xs)) s)
      ∙ (sym (ap (λ (ys : List D). map shown out ++ ys) (next_element view xs i x lt e)) ∙ f.is)));
}

pub rests_end : {A C D : Type 0} (view : A → D) (shown : C → D) (xs : List A) (i : ℕ) (out : List C) → length xs ≤ i → Rests view shown xs i out → map shown out ≡ map view xs
rests_end {A} {C} {D} view shown xs i out le f = sym (append-nil (map shown out)) ∙ (sym (ap (λ (ys : List A). map shown out ++ map view ys) (drop_all i xs le)) ∙ f.is)

pub ruleset map_laws = (rests_start, rests_push, rests_end)

-- ---- the same, each element as it is

-- These and what the rest make are all.
pub record Maps {A D : Type 0} (view : A → D) (xs : List A) (i : ℕ) (out : List D) : Type 0 where
  pub is : out ++ map view (drop i xs) ≡ map view xs

pub maps_start : {A D : Type 0} (view : A → D) (xs : List A) → Maps view xs 0 []
maps_start view xs = record { is = refl }

pub maps_push : {A D : Type 0} (view : A → D) (xs : List A) (i : ℕ) (out : List D) (x : A) (d : D) → i < length xs → x ≡ get_or xs i x → d ≡ view x → Maps view xs i out → Maps view xs (i + 1) (out ++ d ∷ [])
maps_push {A} {D} view xs i out x d lt e s f = record {
  is = append_assoc out (d ∷ []) (map view (drop (i + 1) xs))
      ∙ (ap (λ (y : D). out ++ y ∷ map view (drop (i + 1) xs)) s
      ∙ (sym (ap (λ (ys : List D). out ++ ys) (next_element view xs i x lt e)) ∙ f.is));
}

pub maps_end : {A D : Type 0} (view : A → D) (xs : List A) (i : ℕ) (out : List D) → length xs ≤ i → Maps view xs i out → out ≡ map view xs
maps_end {A} {D} view xs i out le f = sym (append-nil out) ∙ (sym (ap (λ (ys : List A). out ++ map view ys) (drop_all i xs le)) ∙ f.is)

pub ruleset plain_laws = (maps_start, maps_push, maps_end)
