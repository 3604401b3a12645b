-- What stands at places of lists.
use Rattle.std.proofs.Common.{◌≡◌, ℕ, zero, suc, ◌+◌, ◌<◌, ◌≤◌, List, [], ◌∷◌, ◌++◌, length, map, take, get_or, Option, Some, None, inl, inr, refl, sym, ap, subst, ◌∙◌, append_assoc, append-nil, arith}
use Rattle.std.specs.List.{slice_get, slice_index_or}
use Rattle.std.specs.Option.{option_map}
use Rattle.std.specs.Prelude.{option_to_list}
use Rattle.std.proofs.lemmas.List.{length-map, take_all}
use Rattle.std.proofs.lemmas.Option.{slice_get_cases, slice_get_within, slice_get-map}
use Rattle.cm_lemmas.proofs.Lists.{take_one}
use Rattle.cm_types.specs.Signatures.{NamedExtern}

pub read_at : {A : Type 0} (x : A) (xs : List A) (i : ℕ) → i < length xs → x ≡ get_or xs i x → slice_get xs i ≡ Some x
read_at x [] i lt e = absurd (omega (arith, lt))
read_at {A} x (y ∷ ys) zero lt e = ap (λ (a : A). let o : Option A = Some a in o) (sym e)
read_at x (y ∷ ys) (suc i) lt e = read_at x ys i (omega (arith, lt)) e

-- nothing more stands behind the end
pub take_none : {E : Type 0} (n : ℕ) (xs : List E) → slice_get xs n ≡ None → take (n + 1) xs ≡ take n xs
take_none {E} n xs h = elim (slice_get_cases xs n).1 [
  | inl f ↦ absurd (none_some f.0 (sym h ∙ f.2))
  | inr p ↦ take_all (n + 1) xs (let le : length xs ≤ n = p.0 in omega (arith, le)) ∙ sym (take_all n xs p.0)
]
  where
    none_some : (e : E) → (let o : Option E = None in o) ≡ Some e → ⊥
    none_some e g = cc

-- what is made of the member at a place
pub index_mapped : {A : Type 0} (f : A → Option ℕ) (xs : List A) (n : ℕ) (x : A) → slice_get xs n ≡ Some x → slice_index_or (map f xs) n None ≡ f x
index_mapped f [] n x e = absurd cc
index_mapped {A} f (y ∷ ys) zero x e = ap f (one e)
  where
    one : Some y ≡ Some x → y ≡ x
    one h = cc
index_mapped f (y ∷ ys) (suc n) x e = index_mapped f ys n x e

-- the next of those that there are, if there is one
pub taken_next : {E : Type 0} (xs : List E) (n : ℕ) → take n xs ++ option_to_list (slice_get xs n) ≡ take (n + 1) xs
taken_next {E} xs n = by (slice_get xs n) refl
  where
    by : (o : Option E) → slice_get xs n ≡ o → take n xs ++ option_to_list o ≡ take (n + 1) xs
    by None h = append-nil (take n xs) ∙ sym (take_none n xs h)
    by (Some x) h = sym (take_one xs n x h)

-- the same behind others
pub shown_next : {E : Type 0} (old all : List E) (n : ℕ) (before after : List E) → before ≡ old ++ take n all → after ≡ before ++ option_to_list (slice_get all n) → after ≡ old ++ take (n + 1) all
shown_next {E} old all n before after was is =
    is ∙ (ap (λ (l : List E). l ++ option_to_list (slice_get all n)) was
    ∙ (append_assoc old (take n all) (option_to_list (slice_get all n)) ∙ ap (λ (l : List E). old ++ l) (taken_next all n)))

pub names_next : (xs : List NamedExtern) (n : ℕ) (before after : List (List ℕ)) → before ≡ take n (map (λ (e : NamedExtern). e.name) xs) → after ≡ before ++ option_to_list (option_map (λ (e : NamedExtern). e.name) (slice_get xs n)) → after ≡ take (n + 1) (map (λ (e : NamedExtern). e.name) xs)
names_next xs n before after was is =
    is ∙ (ap (λ (l : List (List ℕ)). l ++ option_to_list (option_map (λ (e : NamedExtern). e.name) (slice_get xs n))) was
    ∙ (ap (λ (o : Option (List ℕ)). take n (map (λ (e : NamedExtern). e.name) xs) ++ option_to_list o) (sym (slice_get-map (λ (e : NamedExtern). e.name) xs n))
    ∙ taken_next (map (λ (e : NamedExtern). e.name) xs) n))

pub names_end : (xs : List NamedExtern) (n : ℕ) (out : List (List ℕ)) → length xs ≤ n → out ≡ take n (map (λ (e : NamedExtern). e.name) xs) → out ≡ map (λ (e : NamedExtern). e.name) xs
names_end xs n out le is =
    let long : length (map (λ (e : NamedExtern). e.name) xs) ≡ length xs = length-map xs (λ (e : NamedExtern). e.name) in
    is ∙ take_all n (map (λ (e : NamedExtern). e.name) xs) (omega (arith, long, le))

-- what is made of one more
pub mapped_next : {C D : Type 0} (view : C → D) (xs : List C) (i : ℕ) (x : C) → i < length xs → x ≡ get_or xs i x → map view (take (i + 1) xs) ≡ map view (take i xs) ++ view x ∷ []
mapped_next {C} {D} view xs i x lt at = ap (map view) (take_one xs i x (read_at x xs i lt at)) ∙ pushed (take i xs)
  where
    pushed : (ys : List C) → map view (ys ++ x ∷ []) ≡ map view ys ++ view x ∷ []
    pushed [] = refl
    pushed (y ∷ ys) = ap (λ (l : List D). view y ∷ l) (pushed ys)
