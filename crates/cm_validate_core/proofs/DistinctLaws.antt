-- A list of texts is read from its front, and each text is looked for in the set of those before it.
use Rattle.std.proofs.Common.{◌≡◌, ℕ, ◌+◌, ◌<◌, Bool, true, false, ◌&&◌, ◌||◌, not, cond, List, [], ◌∷◌, length, get_or, drop, map, refl, sym, ◌∙◌, ap}
use Rattle.std.specs.List.{list_all, list_any}
use Rattle.std.specs.Str.{bytes_eq}
use Rattle.std.specs.Char.{to_ascii_lowercase}
use Rattle.cm_types.specs.Names.{is_same_name}
use Rattle.cm_validate_model.specs.TypeRules.{are_distinct_names}
use Rattle.cm_lemmas.proofs.Lists.{none_of_more, none_is_seen, next_element}
use Rattle.cm_lemmas.proofs.Bools.{and_assoc}

-- no two of these texts are equal
abbrev pub are_distinct : List (List ℕ) → Bool
are_distinct [] = true
are_distinct (x ∷ xs) = not (list_any (bytes_eq x) xs) && are_distinct xs

-- a text without ASCII case
abbrev pub folded : List ℕ → List ℕ
folded name = map to_ascii_lowercase name

any_folded : (x : List ℕ) (xs : List (List ℕ)) → list_any (is_same_name x) xs ≡ list_any (bytes_eq (folded x)) (map folded xs)
any_folded x [] = refl
any_folded x (y ∷ ys) = ap (λ b. is_same_name x y || b) (any_folded x ys)

-- names are distinct where they differ without case
pub distinct_folded : (xs : List (List ℕ)) → are_distinct (map folded xs) ≡ are_distinct_names xs
distinct_folded [] = refl
distinct_folded (x ∷ xs) = ap (λ b. not b && are_distinct (map folded xs)) (sym (any_folded x xs)) ∙ ap (λ b. not (list_any (is_same_name x) xs) && b) (distinct_folded xs)

-- none of the texts to come is in the set, and no two of them are equal
abbrev pub rest_is_distinct : (List ℕ → Bool) → List (List ℕ) → Bool
rest_is_distinct has xs = list_all (λ x. not (has x)) xs && are_distinct xs

or_false : (a : Bool) → (a || false) ≡ cond a true false
or_false true = refl
or_false false = refl

or_swap : (a b c : Bool) → (a || cond b true c) ≡ cond b true (a || c)
or_swap true true c = refl
or_swap true false c = refl
or_swap false true c = refl
or_swap false false c = refl

-- before the first text the set is empty
pub rest_is_distinct-empty : (has : List ℕ → Bool) (xs : List (List ℕ)) → ((q : List ℕ) → has q ≡ false) → rest_is_distinct has xs ≡ are_distinct xs
rest_is_distinct-empty has xs none = ap (λ b. b && are_distinct xs) (none_is_seen has xs none)

-- a text that is in the set stands twice
pub rest_is_distinct-seen : (has : List ℕ → Bool) (x : List ℕ) (xs : List (List ℕ)) → has x ≡ true → rest_is_distinct has (x ∷ xs) ≡ false
rest_is_distinct-seen has x xs e = ap (λ b. (not b && list_all (λ y. not (has y)) xs) && are_distinct (x ∷ xs)) e

-- a new text goes into the set
pub rest_is_distinct-new : (has more : List ℕ → Bool) (x : List ℕ) (xs : List (List ℕ)) → has x ≡ false → ((q : List ℕ) → more q ≡ cond (bytes_eq x q) true (has q)) → rest_is_distinct more xs ≡ rest_is_distinct has (x ∷ xs)
rest_is_distinct-new has more x xs new grows =
    ap (λ b. b && are_distinct xs) (none_of_more has more x xs grows)
    ∙ and_assoc (list_all (λ y. not (has y)) xs) (not (list_any (bytes_eq x) xs)) (are_distinct xs)
    ∙ sym (ap (λ b. (not b && list_all (λ y. not (has y)) xs) && are_distinct (x ∷ xs)) new)

is_false : (new b : Bool) → new ≡ not b → new ≡ true → b ≡ false
is_false new true e n = absurd cc
is_false new false e n = refl

-- the loop's step: the next text t, which stands at the index i, is new and goes into the set
pub goes_on : {A : Type 0} (key : A → List ℕ) (xs : List A) (i : ℕ) (x : A) (has more : List ℕ → Bool) (t : List ℕ) (new all : Bool) → i < length xs → x ≡ get_or xs i x → t ≡ key x → new ≡ not (has t) → new ≡ true → ((q : List ℕ) → more q ≡ cond (bytes_eq t q) true (has q)) → rest_is_distinct has (map key (drop i xs)) ≡ all → rest_is_distinct more (map key (drop (i + 1) xs)) ≡ all
goes_on key xs i x has more t new all lt is same answer was grows before =
    rest_is_distinct-new has more t (map key (drop (i + 1) xs)) (is_false new (has t) answer was) grows
    ∙ ap (λ s. rest_is_distinct has (s ∷ map key (drop (i + 1) xs))) same
    ∙ sym (ap (rest_is_distinct has) (next_element key xs i x lt is))
    ∙ before

-- the labels of these, without case
pub mapped : {A : Type 0} (label : A → List ℕ) (xs : List A) → map (λ x. folded (label x)) xs ≡ map folded (map label xs)
mapped label [] = refl
mapped label (x ∷ xs) = ap (λ l. folded (label x) ∷ l) (mapped label xs)

-- labels are distinct where none is met twice
pub distinct_labels : {A : Type 0} (label : A → List ℕ) (xs : List A) → are_distinct (map (λ x. folded (label x)) xs) ≡ are_distinct_names (map label xs)
distinct_labels label xs = ap are_distinct (mapped label xs) ∙ distinct_folded (map label xs)

pub is_taken : (new b : Bool) → new ≡ not b → new ≡ false → b ≡ true
is_taken new true e n = refl
is_taken new false e n = absurd cc

-- the next text was seen, so not all differ
pub met_again : {A : Type 0} (key : A → List ℕ) (xs : List A) (i : ℕ) (x : A) (has : List ℕ → Bool) (new all : Bool) → i < length xs → x ≡ get_or xs i x → new ≡ not (has (key x)) → new ≡ false
    → rest_is_distinct has (map key (drop i xs)) ≡ all → false ≡ all
met_again key xs i x has new all lt is answer was before =
    sym (rest_is_distinct-seen has (key x) (map key (drop (i + 1) xs)) (is_taken new (has (key x)) answer was))
    ∙ sym (ap (rest_is_distinct has) (next_element key xs i x lt is))
    ∙ before
