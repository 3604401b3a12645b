-- Edges, one after the other.
use Rattle.std.proofs.Common.{◌≡◌, ℕ, ◌+◌, ◌<◌, ◌≤◌, List, [], ◌∷◌, ◌++◌, length, map, drop, get_or, Option, Some, None, refl, sym, ap, ◌∙◌, append_assoc, append-nil}
use Rattle.std.specs.List.{filter_map, cons_option}
use Rattle.std.proofs.lemmas.List.{drop_all}
use Rattle.cm_lemmas.proofs.Lists.{next_element}

-- These were found, and the rest of the list makes all.
pub record Finds {A B C : Type 0} (view : A → B) (h : B → Option C) (xs : List A) (i : ℕ) (found : List C) : Type 0 where
  pub is : found ++ filter_map h (map view (drop i xs)) ≡ filter_map h (map view xs)

pub finds_none : {A B C : Type 0} (view : A → B) (h : B → Option C) (xs : List A) → Finds view h xs 0 []
finds_none view h xs = record { is = refl }

cons_some : {C : Type 0} (found rest : List C) (c : C) → found ++ cons_option (Some c) rest ≡ (found ++ c ∷ []) ++ rest
cons_some found rest c = sym (append_assoc found (c ∷ []) rest)

pub finds_some : {A B C : Type 0} (view : A → B) (h : B → Option C) (xs : List A) (i : ℕ) (found : List C) (x : A) (c : C) → i < length xs → x ≡ get_or xs i x → h (view x) ≡ Some c → Finds view h xs i found → Finds view h xs (i + 1) (found ++ c ∷ [])
finds_some {A} {B} {C} view h xs i found x c lt e s f = record {
  is = sym (ap (λ (o : Option C). found ++ cons_option o (filter_map h (map view (drop (i + 1) xs)))) s ∙ cons_some found (filter_map h (map view (drop (i + 1) xs))) c) ∙ (sym (ap (λ (ys : List B). found ++ filter_map h ys) (next_element view xs i x lt e)) ∙ f.is);
}

pub finds_not : {A B C : Type 0} (view : A → B) (h : B → Option C) (xs : List A) (i : ℕ) (found : List C) (x : A) → i < length xs → x ≡ get_or xs i x → h (view x) ≡ None → Finds view h xs i found → Finds view h xs (i + 1) found
finds_not {A} {B} {C} view h xs i found x lt e s f = record {
  is = sym (ap (λ (o : Option C). found ++ cons_option o (filter_map h (map view (drop (i + 1) xs)))) s) ∙ (sym (ap (λ (ys : List B). found ++ filter_map h ys) (next_element view xs i x lt e)) ∙ f.is);
}

pub finds_all : {A B C : Type 0} (view : A → B) (h : B → Option C) (xs : List A) (i : ℕ) (found : List C) → length xs ≤ i → Finds view h xs i found → found ≡ filter_map h (map view xs)
finds_all {A} {B} {C} view h xs i found le f = sym (append-nil found) ∙ (sym (ap (λ (ys : List A). found ++ filter_map h (map view ys)) (drop_all i xs le)) ∙ f.is)

pub ruleset edge_laws = (finds_none, finds_some, finds_not, finds_all)
