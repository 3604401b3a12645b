-- Lists made element by element, and searches.
use Rattle.std.proofs.Common.{◌≡◌, ℕ, ◌+◌, ◌<◌, ◌≤◌, Bool, true, false, cond, List, [], ◌∷◌, ◌++◌, length, map, drop, get_or, Some, None, refl, sym, ap, ◌∙◌, append_assoc, append-nil}
use Rattle.std.specs.List.{position_from}
use Rattle.std.specs.Prelude.{String}
use Rattle.std.specs.Global.{Global}
use Rattle.std.specs.String.{string_bytes}
use Rattle.std.proofs.lemmas.List.{drop_all, map-append}
use Rattle.cm_wit_reading.specs.Trees.{File}
use Rattle.cm_wit_worlds.specs.Interfaces.{package_key, package_name}
use Rattle.cm_lemmas.proofs.Lists.{next_element}

-- ---- searches

-- What is sought is the first among the rest.
pub record Looks {A B : Type 0} (view : A → B) (test : B → Bool) (xs : List A) (i : ℕ) : Type 0 where
  pub is : position_from test 0 (map view xs) ≡ position_from test i (map view (drop i xs))

pub looks_start : {A B : Type 0} (view : A → B) (test : B → Bool) (xs : List A) → Looks view test xs 0
looks_start view test xs = record { is = refl }

pub looks_on : {A B : Type 0} (view : A → B) (test : B → Bool) (xs : List A) (i : ℕ) (x : A) → i < length xs → x ≡ get_or xs i x → test (view x) ≡ false → Looks view test xs i → Looks view test xs (i + 1)
looks_on {A} {B} view test xs i x lt e isnt f = record {
  is = f.is ∙ (ap (λ (ys : List B). position_from test i ys) (next_element view xs i x lt e) ∙ ap (λ (b : Bool). cond b (Some i) (position_from test (i + 1) (map view (drop (i + 1) xs)))) isnt);
}

pub looks_here : {A B : Type 0} (view : A → B) (test : B → Bool) (xs : List A) (i : ℕ) (x : A) → i < length xs → x ≡ get_or xs i x → test (view x) ≡ true → Looks view test xs i → Some i ≡ position_from test 0 (map view xs)
looks_here {A} {B} view test xs i x lt e is f = sym (f.is ∙ (ap (λ (ys : List B). position_from test i ys) (next_element view xs i x lt e) ∙ ap (λ (b : Bool). cond b (Some i) (position_from test (i + 1) (map view (drop (i + 1) xs)))) is))

pub looks_end : {A B : Type 0} (view : A → B) (test : B → Bool) (xs : List A) (i : ℕ) → length xs ≤ i → Looks view test xs i → None ≡ position_from test 0 (map view xs)
looks_end {A} view test xs i le f = sym (f.is ∙ ap (λ (ys : List A). position_from test i (map view ys)) (drop_all i xs le))

pub ruleset search_laws = (looks_start, looks_on, looks_here, looks_end)

-- ---- keys

key_each : (fs : List File) → map {B = ℕ × List ℕ} (λ (t : List ℕ). (0, t)) (map package_name fs) ≡ map package_key fs
key_each [] = refl
key_each (f ∷ fs) = ap (λ (ks : List (ℕ × List ℕ)). package_key f ∷ ks) (key_each fs)

key_text : (names : List (String Global)) → map {B = ℕ × List ℕ} (λ (s : String Global). (0, string_bytes s)) names ≡ map {B = ℕ × List ℕ} (λ (t : List ℕ). (0, t)) (map string_bytes names)
key_text [] = refl
key_text (s ∷ names) = ap (λ (ks : List (ℕ × List ℕ)). (0, string_bytes s) ∷ ks) (key_text names)

pub name_keys : (fs : List File) (names : List (String Global)) → map string_bytes names ≡ map package_name fs → map {B = ℕ × List ℕ} (λ (s : String Global). (0, string_bytes s)) names ≡ map package_key fs
name_keys fs names e = key_text names ∙ (ap (map {B = ℕ × List ℕ} (λ (t : List ℕ). (0, t))) e ∙ key_each fs)

pub ruleset directory_laws = (name_keys)

-- ---- lists

-- These stand there, and those of the rest make all.
pub record Rests {A B C D : Type 0} (view : A → B) (F : List B → List D) (shown : C → D) (xs : List A) (i : ℕ) (out : List C) : Type 0 where
  pub is : map shown out ++ F (map view (drop i xs)) ≡ F (map view xs)

pub rests_start : {A B C D : Type 0} (view : A → B) (F : List B → List D) (shown : C → D) (xs : List A) → Rests view F shown xs 0 []
rests_start view F shown xs = record { is = refl }

pub rests_skip : {A B C D : Type 0} (view : A → B) (F : List B → List D) (shown : C → D) (xs : List A) (i : ℕ) (out : List C) (x : A) → i < length xs → x ≡ get_or xs i x → ((ys : List B) → F (view x ∷ ys) ≡ F ys) → Rests view F shown xs i out → Rests view F shown xs (i + 1) out
rests_skip {A} {B} {C} {D} view F shown xs i out x lt e s f = record {
  is = sym (ap (λ (l : List D). map shown out ++ l) (s (map view (drop (i + 1) xs)))) ∙ (sym (ap (λ (ys : List B). map shown out ++ F ys) (next_element view xs i x lt e)) ∙ f.is);
}

pub rests_push : {A B C D : Type 0} (view : A → B) (F : List B → List D) (shown : C → D) (xs : List A) (i : ℕ) (out : List C) (x : A) (c : C) → i < length xs → x ≡ get_or xs i x → ((ys : List B) → F (view x ∷ ys) ≡ shown c ∷ F ys) → Rests view F shown xs i out → Rests view F shown xs (i + 1) (out ++ c ∷ [])
rests_push {A} {B} {C} {D} view F shown xs i out x c lt e s f = record {
  is = ap (λ (l : List D). l ++ F (map view (drop (i + 1) xs))) (map-append shown out (c ∷ []))
      ∙ (append_assoc (map shown out) (shown c ∷ []) (F (map view (drop (i + 1) xs)))
      ∙ (sym (ap (λ (l : List D). map shown out ++ l) (s (map view (drop (i + 1) xs))))
      ∙ (sym (ap (λ (ys : List B). map shown out ++ F ys) (next_element view xs i x lt e)) ∙ f.is)));
}

pub rests_end : {A B C D : Type 0} (view : A → B) (F : List B → List D) (shown : C → D) (xs : List A) (i : ℕ) (out : List C) → length xs ≤ i → F [] ≡ [] → Rests view F shown xs i out → map shown out ≡ F (map view xs)
rests_end {A} {B} {C} {D} view F shown xs i out le none f = sym (append-nil (map shown out)) ∙ (sym (ap (λ (l : List D). map shown out ++ l) none) ∙ (sym (ap (λ (ys : List A). map shown out ++ F (map view ys)) (drop_all i xs le)) ∙ f.is))

-- the same of a list that is shown as it is
pub record Ends {A B D : Type 0} (view : A → B) (F : List B → List D) (xs : List A) (i : ℕ) (out : List D) : Type 0 where
  pub is : out ++ F (map view (drop i xs)) ≡ F (map view xs)

pub ends_start : {A B D : Type 0} (view : A → B) (F : List B → List D) (xs : List A) → Ends view F xs 0 []
ends_start view F xs = record { is = refl }

pub ends_skip : {A B D : Type 0} (view : A → B) (F : List B → List D) (xs : List A) (i : ℕ) (out : List D) (x : A) → i < length xs → x ≡ get_or xs i x → ((ys : List B) → F (view x ∷ ys) ≡ F ys) → Ends view F xs i out → Ends view F xs (i + 1) out
ends_skip {A} {B} {D} view F xs i out x lt e s f = record {
  is = sym (ap (λ (l : List D). out ++ l) (s (map view (drop (i + 1) xs)))) ∙ (sym (ap (λ (ys : List B). out ++ F ys) (next_element view xs i x lt e)) ∙ f.is);
}

pub ends_push : {A B D : Type 0} (view : A → B) (F : List B → List D) (xs : List A) (i : ℕ) (out : List D) (x : A) (c : D) → i < length xs → x ≡ get_or xs i x → ((ys : List B) → F (view x ∷ ys) ≡ c ∷ F ys) → Ends view F xs i out → Ends view F xs (i + 1) (out ++ c ∷ [])
ends_push {A} {B} {D} view F xs i out x c lt e s f = record {
  is = append_assoc out (c ∷ []) (F (map view (drop (i + 1) xs)))
      ∙ (sym (ap (λ (l : List D). out ++ l) (s (map view (drop (i + 1) xs))))
      ∙ (sym (ap (λ (ys : List B). out ++ F ys) (next_element view xs i x lt e)) ∙ f.is));
}

pub ends_end : {A B D : Type 0} (view : A → B) (F : List B → List D) (xs : List A) (i : ℕ) (out : List D) → length xs ≤ i → F [] ≡ [] → Ends view F xs i out → out ≡ F (map view xs)
ends_end {A} {B} {D} view F xs i out le none f = sym (append-nil out) ∙ (sym (ap (λ (l : List D). out ++ l) none) ∙ (sym (ap (λ (ys : List A). out ++ F (map view ys)) (drop_all i xs le)) ∙ f.is))

pub ruleset map_laws = (rests_start, rests_push, rests_end)

pub ruleset use_laws = (ends_start, ends_skip, ends_push, ends_end)
