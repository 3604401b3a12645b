-- Entries added one by one.
use Rattle.std.proofs.Common.{◌≡◌, ℕ, zero, suc, ◌+◌, ◌<◌, Bool, cond, Option, Some, None, List, [], ◌∷◌, length, map, get_or, inl, inr, refl, sym, ap, ◌∙◌, arith}
use Rattle.std.specs.List.{position_from, slice_get}
use Rattle.std.specs.Option.{option_and_then, option_map}
use Rattle.std.specs.Str.{bytes_eq}
use Rattle.std.proofs.lemmas.Bool.{cases_Bool}
use Rattle.std.proofs.lemmas.List.{length-map}
use Rattle.std.specs.Prelude.{Result, Ok, Err, IfErr, OnOk}
use Rattle.cm_wit_conforms.specs.Places.{place_in}
use Rattle.cm_wit_conforms.specs.Comparisons.{named}

-- ---- what stands at a place

shift : {K : Type 0} (P : K → Bool) (i : ℕ) (xs : List K) → position_from P (i + 1) xs ≡ option_map suc (position_from P i xs)
shift P i [] = refl
shift P i (x ∷ xs) = elim (cases_Bool (P x)) [
  | inl h ↦
      ap (λ (b : Bool). cond b (Some (i + 1)) (position_from P (i + 1 + 1) xs)) h
      ∙ (ap (λ (n : ℕ). let o : Option ℕ = Some n in o) (omega arith)
      ∙ sym (ap (λ (b : Bool). option_map suc (cond b (Some i) (position_from P (i + 1) xs))) h))
  | inr h ↦
      ap (λ (b : Bool). cond b (Some (i + 1)) (position_from P (i + 1 + 1) xs)) h
      ∙ (shift P (i + 1) xs
      ∙ sym (ap (λ (b : Bool). option_map suc (cond b (Some i) (position_from P (i + 1) xs))) h))
]

later : {A : Type 0} (x : A) (xs : List A) (o : Option ℕ) → option_and_then (slice_get (x ∷ xs)) (option_map suc o) ≡ option_and_then (slice_get xs) o
later x xs None = refl
later x xs (Some i) = refl

-- what has a name is what stands at its place
pub named_placed : {A B D : Type 0} (name_of : A → List ℕ) (shown : A → D) (shown_name : D → List ℕ) (what : D → B) → ((x : A) → shown_name (shown x) ≡ name_of x) → (name : List ℕ) (xs : List A) → named shown_name what name (map shown xs) ≡ option_map (λ x. what (shown x)) (option_and_then (slice_get xs) (place_in (map name_of xs) name))
named_placed name_of shown shown_name what same name [] = refl
named_placed {A} {B} {D} name_of shown shown_name what same name (x ∷ xs) = elim (cases_Bool (bytes_eq name (name_of x))) [
  | inl h ↦
      ap (λ (b : Bool). cond b (Some (what (shown x))) (named shown_name what name (map shown xs))) (ap (bytes_eq name) (same x) ∙ h)
      ∙ sym (ap (λ (b : Bool). option_map (λ y. what (shown y)) (option_and_then (slice_get (x ∷ xs)) (cond b (Some 0) (position_from (bytes_eq name) (0 + 1) (map name_of xs))))) h)
  | inr h ↦
      ap (λ (b : Bool). cond b (Some (what (shown x))) (named shown_name what name (map shown xs))) (ap (bytes_eq name) (same x) ∙ h)
      ∙ (named_placed name_of shown shown_name what same name xs
      ∙ (sym (ap (option_map (λ y. what (shown y))) (later x xs (place_in (map name_of xs) name)))
      ∙ (sym (ap (λ (o : Option ℕ). option_map (λ y. what (shown y)) (option_and_then (slice_get (x ∷ xs)) o)) (shift (bytes_eq name) 0 (map name_of xs)))
      ∙ sym (ap (λ (b : Bool). option_map (λ y. what (shown y)) (option_and_then (slice_get (x ∷ xs)) (cond b (Some 0) (position_from (bytes_eq name) (0 + 1) (map name_of xs))))) h))))
]

-- the place of the i-th name is the i-th of all places
pub place_at : {A : Type 0} (name_of : A → List ℕ) (f : List ℕ → Option ℕ) (xs : List A) (i : ℕ) (d : Option ℕ) → i < length (map f (map name_of xs)) → (x : A) × (slice_get xs i ≡ Some x) × (x ≡ get_or xs i x) × (get_or (map f (map name_of xs)) i d ≡ f (name_of x)) × (i < length xs)
place_at name_of f [] i d lt = absurd (omega (arith, lt))
place_at name_of f (x ∷ xs) zero d lt = (x, refl, refl, refl, omega arith)
place_at name_of f (x ∷ xs) (suc i) d lt =
    let h = place_at name_of f xs i d (omega (arith, lt)) in
    (h.0, h.1, h.2, h.3, omega (arith, h.4))

pub all_placed : {A : Type 0} (name_of : A → List ℕ) (f : List ℕ → Option ℕ) (xs : List A) (places : List (Option ℕ)) → places ≡ map f (map name_of xs) → length places ≡ length xs
all_placed name_of f xs places e = ap (λ (l : List (Option ℕ)). length l) e ∙ (length-map (map name_of xs) f ∙ length-map xs name_of)

pub on_ok_more : {T E : Type 0} (r : Result T E) (P Q : Type 0) → OnOk r P → (P → Q) → OnOk r Q
on_ok_more (Ok v) P Q h f = f h
on_ok_more (Err e) P Q h f = tt

pub map_same : {A : Type 0} (xs : List A) → map (λ x. x) xs ≡ xs
map_same [] = refl
map_same {A} (x ∷ xs) = ap (λ (l : List A). x ∷ l) (map_same xs)

pub if_err_more : {T E : Type 0} (r : Result T E) (P Q : E → Type 0) → IfErr r P → ((e : E) → P e → Q e) → IfErr r Q
if_err_more (Ok v) P Q h f = tt
if_err_more (Err e) P Q h f = f e h
