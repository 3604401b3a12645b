-- Lists made part by part.
use Rattle.std.proofs.Common.{◌≡◌, ℕ, ◌+◌, ◌<◌, ◌≤◌, List, [], ◌∷◌, ◌++◌, length, map, drop, get_or, Option, Some, None, refl, sym, ap, ◌∙◌, append_assoc, append-nil}
use Rattle.std.specs.List.{filter_map, cons_option}
use Rattle.std.proofs.lemmas.List.{drop_all, map-append}
use Rattle.cm_lemmas.proofs.Lists.{next_element}

-- These stand there, and what is found in the rest makes all.
pub record Finds {A B C D : Type 0} (view : A → B) (h : B → Option D) (shown : C → D) (xs : List A) (i : ℕ) (start out : List C) : Type 0 where
  pub is : map shown out ++ filter_map h (map view (drop i xs)) ≡ map shown start ++ filter_map h (map view xs)

pub finds_none : {A B C D : Type 0} (view : A → B) (h : B → Option D) (shown : C → D) (xs : List A) (start : List C) → Finds view h shown xs 0 start start
finds_none view h shown xs start = record { is = refl }

pub finds_some : {A B C D : Type 0} (view : A → B) (h : B → Option D) (shown : C → D) (xs : List A) (i : ℕ) (start out : List C) (x : A) (c : C) → i < length xs → x ≡ get_or xs i x → h (view x) ≡ Some (shown c) → Finds view h shown xs i start out → Finds view h shown xs (i + 1) start (out ++ c ∷ [])
finds_some {A} {B} {C} {D} view h shown xs i start out x c lt e s f = record {
  is = ap (λ (l : List D). l ++ filter_map h (map view (drop (i + 1) xs))) (map-append shown out (c ∷ []))
      ∙ (append_assoc (map shown out) (shown c ∷ []) (filter_map h (map view (drop (i + 1) xs)))
      ∙ (sym (ap (λ (o : Option D). map shown out ++ cons_option o (filter_map h (map view (drop (i + 1) xs)))) s)
      ∙ (sym (ap (λ (ys : List B). map shown out ++ filter_map h ys) (next_element view xs i x lt e)) ∙ f.is)));
}

pub finds_not : {A B C D : Type 0} (view : A → B) (h : B → Option D) (shown : C → D) (xs : List A) (i : ℕ) (start out : List C) (x : A) → i < length xs → x ≡ get_or xs i x → h (view x) ≡ None → Finds view h shown xs i start out → Finds view h shown xs (i + 1) start out
finds_not {A} {B} {C} {D} view h shown xs i start out x lt e s f = record {
  is = sym (ap (λ (o : Option D). map shown out ++ cons_option o (filter_map h (map view (drop (i + 1) xs)))) s) ∙ (sym (ap (λ (ys : List B). map shown out ++ filter_map h ys) (next_element view xs i x lt e)) ∙ f.is);
}

pub finds_all : {A B C D : Type 0} (view : A → B) (h : B → Option D) (shown : C → D) (xs : List A) (i : ℕ) (start out : List C) → length xs ≤ i → Finds view h shown xs i start out → map shown out ≡ map shown start ++ filter_map h (map view xs)
finds_all {A} {B} {C} {D} view h shown xs i start out le f = sym (append-nil (map shown out)) ∙ (sym (ap (λ (ys : List A). map shown out ++ filter_map h (map view ys)) (drop_all i xs le)) ∙ f.is)

pub ruleset part_laws = (finds_none, finds_some, finds_not, finds_all)

-- These stand there, and the parts of the rest make all.
pub record Joins {A B C D : Type 0} (view : A → B) (parts : ℕ → List B → List D) (shown : C → D) (xs : List A) (i : ℕ) (out : List C) : Type 0 where
  pub is : map shown out ++ parts i (map view (drop i xs)) ≡ parts 0 (map view xs)

pub joins_none : {A B C D : Type 0} (view : A → B) (parts : ℕ → List B → List D) (shown : C → D) (xs : List A) → Joins view parts shown xs 0 []
joins_none view parts shown xs = record { is = refl }

pub joins_next : {A B C D : Type 0} (view : A → B) (parts : ℕ → List B → List D) (part : ℕ → B → List D) (shown : C → D) (xs : List A) (i : ℕ) (out next : List C) (x : A) → ((k : ℕ) (y : B) (ys : List B) → parts k (y ∷ ys) ≡ part k y ++ parts (k + 1) ys) → i < length xs → x ≡ get_or xs i x → map shown next ≡ map shown out ++ part i (view x) → Joins view parts shown xs i out → Joins view parts shown xs (i + 1) next
joins_next {A} {B} {C} {D} view parts part shown xs i out next x cons lt e s f = record {
  is = ap (λ (l : List D). l ++ parts (i + 1) (map view (drop (i + 1) xs))) s
      ∙ (append_assoc (map shown out) (part i (view x)) (parts (i + 1) (map view (drop (i + 1) xs)))
      ∙ (sym (ap (λ (l : List D). map shown out ++ l) (cons i (view x) (map view (drop (i + 1) xs))))
      ∙ (sym (ap (λ (ys : List B). map shown out ++ parts i ys) (next_element view xs i x lt e)) ∙ f.is)));
}

pub joins_all : {A B C D : Type 0} (view : A → B) (parts : ℕ → List B → List D) (shown : C → D) (xs : List A) (i : ℕ) (out : List C) → ((k : ℕ) → parts k [] ≡ []) → length xs ≤ i → Joins view parts shown xs i out → map shown out ≡ parts 0 (map view xs)
joins_all {A} {B} {C} {D} view parts shown xs i out none le f =
    sym (append-nil (map shown out)) ∙ (sym (ap (λ (l : List D). map shown out ++ l) (none i)) ∙ (sym (ap (λ (ys : List A). map shown out ++ parts i (map view ys)) (drop_all i xs le)) ∙ f.is))

pub ruleset listing_laws = (joins_none)
