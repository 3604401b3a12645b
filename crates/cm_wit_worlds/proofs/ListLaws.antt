-- Lists made element by element.
use Rattle.std.proofs.Common.{◌≡◌, ℕ, nat_eq, ◌||◌, ◌+◌, ◌<◌, ◌≤◌, ◌≢◌, inl, inr, Bool, true, false, not, cond, List, [], ◌∷◌, ◌++◌, length, map, take, drop, get_or, refl, sym, ap, ◌∙◌, append_assoc, append-nil, arith}
use Rattle.std.specs.Prelude.{filter}
use Rattle.std.specs.List.{flat_map, list_any}
use Rattle.std.proofs.lemmas.List.{drop_all, drop_more, map-append, take_more, take_all}
use Rattle.std.proofs.lemmas.Bool.{cases_eq}
use Rattle.std.proofs.lemmas.Bool.Decides.{nat_tests}
use Rattle.std.proofs.lemmas.List.Folds.{list_any-append}
use Rattle.cm_wit_graph.specs.DepthFirst.{is_among}
use Rattle.cm_lemmas.proofs.Lists.{next_element}

-- These stand there, and those of the rest, which begins with the i-th, make all.
pub record Ends {A B D : Type 0} (view : A → B) (F : ℕ → List B → List D) (xs : List A) (i : ℕ) (start out : List D) : Type 0 where
  pub is : out ++ F i (map view (drop i xs)) ≡ start ++ F 0 (map view xs)

pub ends_start : {A B D : Type 0} (view : A → B) (F : ℕ → List B → List D) (xs : List A) (start : List D) → Ends view F xs 0 start start
ends_start view F xs start = record { is = refl }

pub ends_skip : {A B D : Type 0} (view : A → B) (F : ℕ → List B → List D) (xs : List A) (i : ℕ) (start out : List D) (x : A) → i < length xs → x ≡ get_or xs i x → ((ys : List B) → F i (view x ∷ ys) ≡ F (i + 1) ys) → Ends view F xs i start out → Ends view F xs (i + 1) start out
ends_skip {A} {B} {D} view F xs i start out x lt e s f = record {
  is = sym (ap (λ (l : List D). out ++ l) (s (map view (drop (i + 1) xs)))) ∙ (sym (ap (λ (ys : List B). out ++ F i ys) (next_element view xs i x lt e)) ∙ f.is);
}

pub ends_push : {A B D : Type 0} (view : A → B) (F : ℕ → List B → List D) (xs : List A) (i : ℕ) (start out : List D) (x : A) (c : D) → i < length xs → x ≡ get_or xs i x → ((ys : List B) → F i (view x ∷ ys) ≡ c ∷ F (i + 1) ys) → Ends view F xs i start out → Ends view F xs (i + 1) start (out ++ c ∷ [])
ends_push {A} {B} {D} view F xs i start out x c lt e s f = record {
  is = append_assoc out (c ∷ []) (F (i + 1) (map view (drop (i + 1) xs)))
      ∙ (sym (ap (λ (l : List D). out ++ l) (s (map view (drop (i + 1) xs))))
      ∙ (sym (ap (λ (ys : List B). out ++ F i ys) (next_element view xs i x lt e)) ∙ f.is));
}

pub ends_join : {A B D : Type 0} (view : A → B) (F : ℕ → List B → List D) (xs : List A) (i : ℕ) (start out next part : List D) (x : A) → i < length xs → x ≡ get_or xs i x → next ≡ out ++ part → ((ys : List B) → F i (view x ∷ ys) ≡ part ++ F (i + 1) ys) → Ends view F xs i start out → Ends view F xs (i + 1) start next
ends_join {A} {B} {D} view F xs i start out next part x lt e n s f = record {
  is = ap (λ (l : List D). l ++ F (i + 1) (map view (drop (i + 1) xs))) n
      ∙ (append_assoc out part (F (i + 1) (map view (drop (i + 1) xs)))
      ∙ (sym (ap (λ (l : List D). out ++ l) (s (map view (drop (i + 1) xs))))
      ∙ (sym (ap (λ (ys : List B). out ++ F i ys) (next_element view xs i x lt e)) ∙ f.is)));
}

pub ends_end : {A B D : Type 0} (view : A → B) (F : ℕ → List B → List D) (xs : List A) (i : ℕ) (start out : List D) → length xs ≤ i → F i [] ≡ [] → Ends view F xs i start out → out ≡ start ++ F 0 (map view xs)
ends_end {A} {B} {D} view F xs i start out le none f = sym (append-nil out) ∙ (sym (ap (λ (l : List D). out ++ l) none) ∙ (sym (ap (λ (ys : List A). out ++ F i (map view ys)) (drop_all i xs le)) ∙ f.is))

pub ruleset import_laws = (ends_start, ends_skip, ends_push, ends_end)

-- ---- rows

pub record Rests {A B C D : Type 0} (view : A → B) (F : List B → List D) (shown : C → D) (xs : List A) (i : ℕ) (out : List C) : Type 0 where
  pub is : map shown out ++ F (map view (drop i xs)) ≡ F (map view xs)

pub rests_start : {A B C D : Type 0} (view : A → B) (F : List B → List D) (shown : C → D) (xs : List A) → Rests view F shown xs 0 []
rests_start view F shown xs = record { is = refl }

pub rests_push : {A B C D : Type 0} (view : A → B) (F : List B → List D) (shown : C → D) (xs : List A) (i : ℕ) (out : List C) (x : A) (c : C) → i < length xs → x ≡ get_or xs i x → ((ys : List B) → F (view x ∷ ys) ≡ shown c ∷ F ys) → Rests view F shown xs i out → Rests view F shown xs (i + 1) (out ++ c ∷ [])
rests_push {A} {B} {C} {D} view F shown xs i out x c lt e s f = record {
  is = ap (λ (l : List D). l ++ F (map view (drop (i + 1) xs))) (map-append shown out (c ∷ []))
      ∙ (append_assoc (map shown out) (shown c ∷ []) (F (map view (drop (i + 1) xs)))
      ∙ (sym (ap (λ (l : List D). map shown out ++ l) (s (map view (drop (i + 1) xs))))
      ∙ (sym (ap (λ (ys : List B). map shown out ++ F ys) (next_element view xs i x lt e)) ∙ f.is)));
}

pub rests_end : {A B C D : Type 0} (view : A → B) (F : List B → List D) (shown : C → D) (xs : List A) (i : ℕ) (out : List C) → length xs ≤ i → F [] ≡ [] → Rests view F shown xs i out → map shown out ≡ F (map view xs)
rests_end {A} {B} {C} {D} view F shown xs i out le none f = sym (append-nil (map shown out)) ∙ (sym (ap (λ (l : List D). map shown out ++ l) none) ∙ (sym (ap (λ (ys : List A). map shown out ++ F (map view ys)) (drop_all i xs le)) ∙ f.is))

pub ruleset map_laws = (rests_start, rests_push, rests_end)

pub ruleset part_laws = (ends_start, ends_skip, ends_push, ends_end)

pub ruleset filter_laws = (ends_start, ends_skip, ends_push, ends_end)

-- The keys are the first numbers.
pub record Same (numbers : List ℕ) (i : ℕ) (keys : List ℕ) : Type 0 where
  pub is : (n : ℕ) → is_among n keys ≡ is_among n (take i numbers)

pub same_start : (numbers : List ℕ) → Same numbers 0 []
same_start numbers = record { is = λ n. refl }

or_by : (a b : Bool) → cond b true a ≡ (a || (b || false))
or_by true true = refl
or_by true false = refl
or_by false true = refl
or_by false false = refl

eq_not : (a b : ℕ) → a ≢ b → nat_eq a b ≡ false
eq_not a b d = grind (arith, nat_tests, d)

eq_back : (a b : ℕ) → nat_eq a b ≡ nat_eq b a
eq_back a b = elim (cases_eq a b) [
  | inl e ↦ rw e refl
  | inr d ↦ eq_not a b d ∙ sym (eq_not b a (λ e. d (sym e)))
]

pub same_next : (numbers : List ℕ) (i : ℕ) (keys next : List ℕ) (x : ℕ) → i < length numbers → x ≡ get_or numbers i x → ((n : ℕ) → is_among n next ≡ cond (nat_eq x n) true (is_among n keys)) → Same numbers i keys → Same numbers (i + 1) next
same_next numbers i keys next x lt e h s = record {
  is = λ n. h n ∙ (rw (eq_back x n) (or_by (is_among n keys) (nat_eq n x)) ∙ (ap (λ (b : Bool). b || (nat_eq n x || false)) (s.is n) ∙ (sym (list_any-append (nat_eq n) (take i numbers) (x ∷ [])) ∙ ap (λ (l : List ℕ). list_any (nat_eq n) l) (sym (take_more numbers i x lt ∙ ap (λ (y : ℕ). take i numbers ++ y ∷ []) (sym e))))));
}

pub same_end : (numbers : List ℕ) (i : ℕ) (keys : List ℕ) → length numbers ≤ i → Same numbers i keys → (n : ℕ) → is_among n keys ≡ is_among n numbers
same_end numbers i keys le s n = s.is n ∙ ap (λ (l : List ℕ). is_among n l) (take_all i numbers le)

pub ruleset set_laws = (same_start, same_next, same_end)

filter_same : (f g : ℕ → Bool) → ((n : ℕ) → f n ≡ g n) → (xs : List ℕ) → filter f xs ≡ filter g xs
filter_same f g h [] = refl
filter_same f g h (x ∷ xs) = ap (λ (b : Bool). cond b (x ∷ filter f xs) (filter f xs)) (h x) ∙ ap (λ (ys : List ℕ). cond (g x) (x ∷ ys) ys) (filter_same f g h xs)

pub others_same : (keys numbers row : List ℕ) → ((n : ℕ) → is_among n keys ≡ is_among n numbers) → filter (λ n. not (is_among n keys)) row ≡ filter (λ n. not (is_among n numbers)) row
others_same keys numbers row h = filter_same (λ n. not (is_among n keys)) (λ n. not (is_among n numbers)) (λ n. ap not (h n)) row

-- what the first numbers need, and what the others need, makes all
pub record Needs (needs : ℕ → List ℕ) (numbers : List ℕ) (i : ℕ) (out : List ℕ) : Type 0 where
  pub is : out ++ flat_map (λ k. filter (λ j. not (is_among j numbers)) (needs k)) (drop i numbers) ≡ flat_map (λ k. filter (λ j. not (is_among j numbers)) (needs k)) numbers

pub needs_start : (needs : ℕ → List ℕ) (numbers : List ℕ) → Needs needs numbers 0 []
needs_start needs numbers = record { is = refl }

pub needs_next : (needs : ℕ → List ℕ) (numbers keys row : List ℕ) (i : ℕ) (out next : List ℕ) (x : ℕ) → i < length numbers → x ≡ get_or numbers i 0 → ((n : ℕ) → is_among n keys ≡ is_among n numbers) → row ≡ needs x → next ≡ out ++ filter (λ n. not (is_among n keys)) row → Needs needs numbers i out → Needs needs numbers (i + 1) next
needs_next needs numbers keys row i out next x lt e h r n s =
    let F : List ℕ → List ℕ = flat_map (λ k. filter (λ j. not (is_among j numbers)) (needs k)) in
    let part : filter (λ n. not (is_among n keys)) row ≡ filter (λ n. not (is_among n numbers)) (needs x) = others_same keys numbers row h ∙ ap (filter (λ n. not (is_among n numbers))) r in
    record {
      is = ap (λ (l : List ℕ). l ++ F (drop (i + 1) numbers)) (n ∙ ap (λ (l : List ℕ). out ++ l) part)
          ∙ (append_assoc out (filter (λ n. not (is_among n numbers)) (needs x)) (F (drop (i + 1) numbers))
          ∙ (sym (ap (λ (ys : List ℕ). out ++ F ys) (drop_more numbers i 0 lt ∙ ap (λ (a : ℕ). a ∷ drop (i + 1) numbers) (sym e))) ∙ s.is));
    }

pub needs_end : (needs : ℕ → List ℕ) (numbers : List ℕ) (i : ℕ) (out : List ℕ) → length numbers ≤ i → Needs needs numbers i out → out ≡ flat_map (λ k. filter (λ j. not (is_among j numbers)) (needs k)) numbers
needs_end needs numbers i out le s = sym (append-nil out) ∙ (sym (ap (λ (ys : List ℕ). out ++ flat_map (λ k. filter (λ j. not (is_among j numbers)) (needs k)) ys) (drop_all i numbers le)) ∙ s.is)

pub ruleset other_laws = (needs_start, needs_next, needs_end)
