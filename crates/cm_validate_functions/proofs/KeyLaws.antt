-- What keys stand for.
use Rattle.std.proofs.Common.{◌≡◌, ◌==◌, ◌&&◌, ◌<◌, ◌≤◌, ℕ, zero, suc, ◌+◌, get_or, Bool, true, false, cond, List, [], ◌∷◌, ◌++◌, length, map, Option, Some, None, refl, sym, ap, subst, ◌∙◌, slice_get, arith}
use Rattle.std.specs.Prelude.{unwrap_or}
use Rattle.std.specs.List.{find, position_from}
use Rattle.std.specs.Option.{option_and_then, option_map, option_map_or}
use Rattle.std.specs.Str.{bytes_eq}
use Rattle.std.proofs.lemmas.Bool.Decides.{nat_tests}
use Rattle.cm_lemmas.proofs.Lists.{Shows, item_there, shows_end, shows_push, shows_start}
use Rattle.cm_lemmas.proofs.Options.{none_some, some_is}
use Rattle.cm_lemmas.proofs.Bools.{and_true}
use Rattle.cm_names.specs.Keys.{Key, is_key}
use Rattle.cm_types.specs.Signatures.{NamedExtern}
use Rattle.cm_validate_model.specs.Definitions.{CoreFuncDef}
use Rattle.cm_validate_functions.specs.Leading.{lowered_item, lowers_item}
use Rattle.cm_validate_functions.specs.Options.{is_number}
use Rattle.cm_validate_functions.specs.Tables.{item_key, number_key}

-- a position among what a function makes
pub position_of : {A B : Type 0} (f : A → B) (p : B → Bool) (q : A → Bool) → ((x : A) → p (f x) ≡ q x) → (i : ℕ) (xs : List A) → position_from p i (map f xs) ≡ position_from q i xs
position_of f p q same i [] = refl
position_of f p q same i (x ∷ xs) =
    ap (λ (b : Bool). cond b (Some i) (position_from p (i + 1) (map f xs))) (same x)
    ∙ ap (λ (o : Option ℕ). cond (q x) (Some i) o) (position_of f p q same (i + 1) xs)

and_false : (b : Bool) → (b && false) ≡ false
and_false true = refl
and_false false = refl

pub number_tested : (n : ℕ) (o : Option ℕ) → is_key n [] (number_key o) ≡ is_number n o
number_tested n None = and_false (n == 0)
number_tested n (Some m) = and_true (n == m)

-- the first that has a number
pub found_by_number : {A : Type 0} (key : A → Option ℕ) (n : ℕ) (xs : List A) → position_from (is_key n []) 0 (map (λ x. number_key (key x)) xs) ≡ position_from (λ x. is_number n (key x)) 0 xs
found_by_number key n xs = position_of (λ x. number_key (key x)) (is_key n []) (λ x. is_number n (key x)) (λ x. number_tested n (key x)) 0 xs

-- the first that has a name
pub found_by_name : {A : Type 0} (name : A → List ℕ) (q : List ℕ) (xs : List A) → position_from (is_key 0 q) 0 (map (λ x. (0, name x)) xs) ≡ position_from (λ x. bytes_eq q (name x)) 0 xs
found_by_name name q xs = position_of (λ x. (0, name x)) (is_key 0 q) (λ x. bytes_eq q (name x)) (λ x. refl) 0 xs

differs : (n count : ℕ) → n < count → (n == count) ≡ false
differs n count lt = grind (arith, nat_tests, lt)

item_tested : (n count : ℕ) (name : List ℕ) (o : Option Key) → n < count → is_key n name (unwrap_or o (count, [])) ≡ option_map_or (is_key n name) o false
item_tested n count name None lt = ap (λ (b : Bool). b && bytes_eq name []) (differs n count lt)
item_tested n count name (Some k) lt = refl

-- the first that lowers an item
pub found_item : (imports : List NamedExtern) (n : ℕ) (name : List ℕ) (ds : List CoreFuncDef) → n < length imports → position_from (is_key n name) 0 (map (item_key imports) ds) ≡ position_from (lowers_item imports n name) 0 ds
found_item imports n name ds lt =
    position_of (item_key imports) (is_key n name) (lowers_item imports n name) (λ d. item_tested n (length imports) name (lowered_item imports d) lt) 0 ds

-- ---- what stands at a position

get_here : {A : Type 0} (front : List A) (x : A) (xs : List A) → slice_get (front ++ x ∷ xs) (length front) ≡ Some x
get_here [] x xs = refl
get_here (y ∷ front) x xs = get_here front x xs

one_further : {A : Type 0} (front : List A) (x : A) (xs : List A) → (front ++ x ∷ []) ++ xs ≡ front ++ x ∷ xs
one_further [] x xs = refl
one_further (y ∷ front) x xs = ap (λ (zs : List _). y ∷ zs) (one_further front x xs)

longer : {A : Type 0} (front : List A) (x : A) → length (front ++ x ∷ []) ≡ length front + 1
longer [] x = refl
longer (y ∷ front) x = omega (arith, longer front x)

-- what is found first is what stands at the first position
found_from : {A : Type 0} (t : A → Bool) (front xs : List A) → option_and_then (λ k. slice_get (front ++ xs) k) (position_from t (length front) xs) ≡ find t xs
found_from t front [] = refl
found_from {A} t front (x ∷ xs) = by (t x) (found_from t (front ++ x ∷ []) xs)
  where
    by : (b : Bool) → option_and_then (λ k. slice_get ((front ++ x ∷ []) ++ xs) k) (position_from t (length (front ++ x ∷ [])) xs) ≡ find t xs
        → option_and_then (λ k. slice_get (front ++ x ∷ xs) k) (cond b (Some (length front)) (position_from t (length front + 1) xs)) ≡ cond b (Some x) (find t xs)
    by true rest = get_here front x xs
    by false rest =
        ap (λ (ys : List A). option_and_then (λ k. slice_get ys k) (position_from t (length front + 1) xs)) (sym (one_further front x xs))
        ∙ ap (λ (n : ℕ). option_and_then (λ k. slice_get ((front ++ x ∷ []) ++ xs) k) (position_from t n xs)) (sym (longer front x))
        ∙ rest

pub found_there : {A : Type 0} (t : A → Bool) (xs : List A) → option_and_then (slice_get xs) (position_from t 0 xs) ≡ find t xs
found_there t xs = found_from t [] xs

-- ---- lists of keys, one more

pub ruleset shows_laws = (shows_start, shows_push, shows_end)

-- one more that is found by its place
pub shows_got : {A B C : Type 0} (view : A → B) (shown : C → B) (xs : List A) (i : ℕ) (out more : List C) (x : A) (c : C) → slice_get xs i ≡ Some x → more ≡ out ++ c ∷ [] → shown c ≡ view x → Shows view shown xs i out → Shows view shown xs (i + 1) more
shows_got {A} {B} {C} view shown xs i out more x c at pushed same so_far =
    let h = there xs i x at in
    subst (Shows view shown xs (i + 1)) (sym pushed) (shows_push view shown xs i out x c h.0 h.1 same so_far)
  where
    there : (ys : List A) (k : ℕ) (y : A) → slice_get ys k ≡ Some y → (k < length ys) × (y ≡ get_or ys k y)
    there [] k y e = absurd (cc)
    there (z ∷ ys) zero y e = (omega arith, sym (some_is z y e))
    there (z ∷ ys) (suc k) y e = let h = there ys k y e in (omega (arith, h.0), h.1)

-- something stands before the end
pub before_end : {A : Type 0} (xs : List A) (i : ℕ) → i < length xs → None ≡ slice_get xs i → ⊥
before_end xs i lt none = let x = item_there xs i lt in none_some x.0 (none ∙ x.1)

pub past_end : {A : Type 0} (xs : List A) (i : ℕ) → None ≡ slice_get xs i → length xs ≤ i
past_end [] i none = omega arith
past_end (x ∷ xs) zero none = absurd (cc)
past_end (x ∷ xs) (suc i) none = omega (arith, past_end xs i none)

pub ruleset index_laws = (shows_start, shows_got, shows_end, before_end, past_end)
