-- Lists: their elements, lengths, parts and maps, and facts of each element.
use Rattle.std.proofs.Common.{List, ℕ, slice_set, ◌≡◌, [], refl, ◌∷◌, zero, suc, ap, length, ◌≤◌, drop, arith, take, ◌++◌, ◌<◌, slice_index, ◌+◌, ◌∙◌, Bool, true, false, slice_get, get_or, Option, Bor, None, sym, Some, ◌≢◌, ◌||◌, inl, inr, ◌⊎◌, ◌&&◌, drop-cons, add-one, map, cond, not, All, subst, append_assoc}
use Rattle.std.proofs.lemmas.Bool.{cases_Bool, and_parts, and_from, false≢true}
use Rattle.std.proofs.lemmas.Grind.{flat_map-append}
use Rattle.std.proofs.lemmas.List.{get_or-take, get_or-drop, length-take-le, length-drop, length-append, take_more, map-append, append-nil, drop_more, drop_all}
use Rattle.std.proofs.lemmas.Option.{slice_get_past, slice_get-get_or, slice_get_within, get_or_from_slice_get}
use Rattle.std.proofs.lemmas.Slice.Eq.{bytes_eq-Decides}
use Rattle.std.specs.Char.{IsScalar}
use Rattle.std.specs.Cmp.Lexicographic.{bytes_decides}
use Rattle.std.specs.List.{flat_map, AllByRecursion, list_any, AllZip, list_all, position_from}
use Rattle.std.specs.Option.{option_map}
use Rattle.std.specs.Prelude.{if◌then◌else◌, Contains, IfSome, option_to_list}
use Rattle.std.specs.Slice.{IsItemAt}
use Rattle.std.specs.Str.{bytes_eq, all_scalars}
use Rattle.cm_lemmas.proofs.Bools.{both_left, both_right, one_more, both_true}
use Rattle.cm_lemmas.proofs.Options.{none_some, some_is, below_by, Has}

pub set_again : {A : Type 0} (l : List A) (i : ℕ) (a b : A) → slice_set (slice_set l i a) i b ≡ slice_set l i b
set_again [] i a b = refl
set_again (x ∷ l) zero a b = refl
set_again (x ∷ l) (suc i) a b = ap (λ xs. x ∷ xs) (set_again l i a b)

pub drop_past : {X : Type 0} (xs : List X) (i : ℕ) → length xs ≤ i → drop i xs ≡ []
drop_past [] zero past = refl
drop_past [] (suc i) past = refl
drop_past (x ∷ xs) zero past = absurd (omega arith)
drop_past (x ∷ xs) (suc i) past = drop_past xs i (omega arith)

pub take_all : {X : Type 0} (xs : List X) (i : ℕ) → length xs ≤ i → take i xs ≡ xs
take_all [] zero past = refl
take_all [] (suc i) past = refl
take_all (x ∷ xs) zero past = absurd (omega arith)
take_all (x ∷ xs) (suc i) past = ap (λ ys. x ∷ ys) (take_all xs i (omega arith))

pub nil_front : {A : Type 0} (xs ys : List A) → xs ++ ys ≡ [] → xs ≡ []
nil_front [] ys none = refl
nil_front (x ∷ xs) ys none = absurd (cc)

pub nil_rest : {A : Type 0} (xs ys : List A) → xs ++ ys ≡ [] → ys ≡ []
nil_rest [] ys none = none
nil_rest (x ∷ xs) ys none = absurd (cc)

pub taken_at : (m : List ℕ) (at size i : ℕ) → i < size → slice_index (take size (drop at m)) i ≡ slice_index m (at + i)
taken_at m at size i lt = get_or-take size (drop at m) i 0 lt ∙ get_or-drop at m i 0

pub taken_length : (m : List ℕ) (at size : ℕ) → at + size ≤ length m → length (take size (drop at m)) ≡ size
taken_length m at size inside = length-take-le size (drop at m) (omega (arith, length-drop at m, inside))

abbrev pub Some1 : List ℕ → Type 0
Some1 sizes = (x : ℕ) × ((xs : List ℕ) × (sizes ≡ x ∷ xs))

pub grown_some : (units : ℕ) (more : List ℕ) (b : Bool) → Some1 (if b then units ∷ more else units ∷ [])
grown_some units more true = (units, (more, refl))
grown_some units more false = (units, ([], refl))

pub shrunk_some : (size exact : ℕ) (b : Bool) → Some1 (if b then size ∷ exact ∷ [] else size ∷ [])
shrunk_some size exact true = (size, (exact ∷ [], refl))
shrunk_some size exact false = (size, ([], refl))

pub get_behind : {A : Type 0} (xs ys : List A) (k : ℕ) → slice_get (xs ++ ys) (length xs + k) ≡ slice_get ys k
get_behind [] ys k = let n : 0 + k ≡ k = omega arith in ap (slice_get ys) n
get_behind (x ∷ xs) ys k = let n : suc (length xs) + k ≡ suc (length xs + k) = omega arith in ap (slice_get (x ∷ (xs ++ ys))) n ∙ get_behind xs ys k

pub both_cons : (b c : ℕ) (rest tail : List ℕ) → b ≡ c → rest ≡ tail → b ∷ rest ≡ c ∷ tail
both_cons b c rest tail p q = cc

pub all_spelled : {A : Type 0} (spell : A → List ℕ) → ((x : A) → 0 < length (spell x)) → (xs : List A) → length xs ≤ length (flat_map spell xs)
all_spelled spell some [] = omega arith
all_spelled spell some (x ∷ xs) = omega (arith, some x, all_spelled spell some xs, length-append (spell x) (flat_map spell xs))

pub Contains-first : (x : ℕ) (xs : List ℕ) → Contains (x ∷ xs) x
Contains-first x xs = (0, omega arith, refl)

pub Contains-nil : (y : ℕ) → Contains [] y → ⊥
Contains-nil y c = omega (arith, c.1)

pub Contains-rest : (x : ℕ) (xs : List ℕ) (y : ℕ) → Contains xs y → Contains (x ∷ xs) y
Contains-rest x xs y c = (suc c.0, omega (arith, c.1), c.2)

pub empty_list : (xs : List ℕ) → length xs ≡ 0 → xs ≡ []
empty_list [] none = refl
empty_list (x ∷ xs) none = absurd (omega arith)

pub all_at : (P : ℕ → Type 0) (xs : List ℕ) (i : ℕ) → AllByRecursion P xs → i < length xs → P (get_or xs i 0)
all_at P [] i h lt = absurd (omega (arith, lt))
all_at P (y ∷ xs) zero h lt = h.0
all_at P (y ∷ xs) (suc i) h lt = all_at P xs i h.1 (omega (arith, lt))

-- The numbers of a slice are bytes.
abbrev pub IsBytes : List ℕ → Type 0
IsBytes bytes = (i : ℕ) → get_or bytes i 0 < 256

pub IsBytes-drop : (n : ℕ) (bytes : List ℕ) → IsBytes bytes → IsBytes (drop n bytes)
IsBytes-drop n bytes h i = rw get_or-drop (h (n + i))

pub IsBytes-tail : (b : ℕ) (bytes : List ℕ) → IsBytes (b ∷ bytes) → IsBytes bytes
IsBytes-tail b bytes h i = h (suc i)

-- what a look-up gives
pub got : {X : Type 0} (xs : List X) (i : ℕ) (r : Option (Bor X)) → IsItemAt xs i r → option_map (λ x. x.now) r ≡ slice_get xs i
got xs i None h = sym (slice_get_past xs i h.3)
got xs i (Some x) h = sym (slice_get-get_or xs i x.now h.3.0 ∙ ap Some (sym h.1))

pub set_past : {X : Type 0} (xs : List X) (i : ℕ) (x : X) → length xs ≤ i → slice_set xs i x ≡ xs
set_past [] i x le = refl
set_past (y ∷ ys) zero x le = absurd (omega (arith, le))
set_past (y ∷ ys) (suc i) x le = ap (λ zs. y ∷ zs) (set_past ys i x (omega (arith, le)))

pub get_set_other : {X : Type 0} (xs : List X) (i j : ℕ) (x : X) → j ≢ i → slice_get (slice_set xs i x) j ≡ slice_get xs j
get_set_other [] i j x ne = refl
get_set_other (y ∷ ys) zero zero x ne = absurd (ne refl)
get_set_other (y ∷ ys) zero (suc j) x ne = refl
get_set_other (y ∷ ys) (suc i) zero x ne = refl
get_set_other (y ∷ ys) (suc i) (suc j) x ne = get_set_other ys i j x (λ e. ne (ap suc e))

pub get_set_same : {X : Type 0} (xs : List X) (i : ℕ) (x : X) → i < length xs → slice_get (slice_set xs i x) i ≡ Some x
get_set_same [] i x lt = absurd (omega arith)
get_set_same (y ∷ ys) zero x lt = refl
get_set_same (y ∷ ys) (suc i) x lt = get_set_same ys i x (omega arith)

pub one_longer : {A : Type 0} (xs : List A) (x : A) → length (xs ++ x ∷ []) ≡ suc (length xs)
one_longer [] x = refl
one_longer (y ∷ ys) x = ap suc (one_longer ys x)

pub same_text : (x y : List ℕ) → bytes_eq x y ≡ true → x ≡ y
same_text x y e = (bytes_eq-Decides x y).0 e

pub any_there : (ts : List (List ℕ)) (t : List ℕ) (n : ℕ) → slice_get ts n ≡ Some t → list_any (bytes_eq t) ts ≡ true
any_there [] t n e = none_some t e
any_there (x ∷ ts) t zero e = rw ((bytes_eq-Decides t x).1 (sym (some_is x t e))) refl
any_there (x ∷ ts) t (suc n) e = here (bytes_eq t x) (any_there ts t n e)
  where
    here : (b : Bool) → list_any (bytes_eq t) ts ≡ true → (b || list_any (bytes_eq t) ts) ≡ true
    here true h = refl
    here false h = h

-- a text is another one than those of a list that has it not
pub absent : (ts : List (List ℕ)) (t u : List ℕ) (n : ℕ) → list_any (bytes_eq t) ts ≡ false → slice_get ts n ≡ Some u → bytes_eq u t ≡ false
absent ts t u n a e = elim (cases_Bool (bytes_eq u t)) [
  | inl y ↦ let f : list_any (bytes_eq t) ts ≡ true = any_there ts t n (e ∙ ap (λ (v : List ℕ). Some v) ((bytes_eq-Decides u t).0 y)) in absurd (let g = sym a ∙ f in cc)
  | inr m ↦ m
]

abbrev pub OldOrLast : List (List ℕ) → List ℕ → ℕ → List ℕ → Type 0
OldOrLast ts t n u = (slice_get ts n ≡ Some u) ⊎ ((n ≡ length ts) × (u ≡ t))

pub old_or_last : (ts : List (List ℕ)) (t : List ℕ) (n : ℕ) (u : List ℕ) → slice_get (ts ++ t ∷ []) n ≡ Some u → OldOrLast ts t n u
old_or_last [] t zero u e = inr (refl, sym (some_is t u e))
old_or_last [] t (suc n) u e = none_some u e
old_or_last (x ∷ ts) t zero u e = inl e
old_or_last (x ∷ ts) t (suc n) u e = elim (old_or_last ts t n u e) [
  | inl h ↦ inl h
  | inr h ↦ inr (ap (λ m. suc m) h.0, h.1)
]

pub from_all : (cs : List ℕ) → AllByRecursion IsScalar cs → all_scalars cs ≡ true
from_all [] all = refl
from_all (c ∷ cs) all = ap (λ b. b && all_scalars cs) all.0 ∙ from_all cs all.1

pub to_all : (cs : List ℕ) → all_scalars cs ≡ true → AllByRecursion IsScalar cs
to_all [] is = tt
to_all (c ∷ cs) is = let parts = and_parts _ _ is in (parts.0, to_all cs parts.1)

pub rest_from : {A : Type 0} (xs : List A) (i : ℕ) (x : A) → i < length xs → x ≡ get_or xs i x → drop i xs ≡ x ∷ drop (i + 1) xs
rest_from {A} xs i x lt e = drop-cons xs i x lt ∙ (ap (λ (a : A). a ∷ drop (suc i) xs) (sym e) ∙ rw (add-one i) refl)

pub text_same : (k l : List ℕ) → k ≡ l → bytes_eq k l ≡ true
text_same k l e = (bytes_decides k l).1 e

abbrev pub same_labels : List (List ℕ) → List (List ℕ) → Bool
same_labels [] [] = true
same_labels (k ∷ ks) (l ∷ ls) = bytes_eq k l && same_labels ks ls
same_labels _ _ = false

pub labels_same : (ks : List (List ℕ)) → same_labels ks ks ≡ true
labels_same [] = refl
labels_same (k ∷ ks) = and_from _ _ ((bytes_decides k k).1 refl) (labels_same ks)

pub labels_sound : (ks ls : List (List ℕ)) → same_labels ks ls ≡ true → ks ≡ ls
labels_sound [] [] h = refl
labels_sound (k ∷ ks) (l ∷ ls) h =
    let p = and_parts _ _ h in
    let e = same_text k l p.0 in
    let f = labels_sound ks ls p.1 in cc
labels_sound _ _ h = absurd (false≢true h)

pub cloned : (xs ys : List (List ℕ)) → AllZip (λ x y. y ≡ x) xs ys → ys ≡ xs
cloned [] [] h = refl
cloned [] (y ∷ ys) h = absurd h
cloned (x ∷ xs) [] h = absurd h
cloned (x ∷ xs) (y ∷ ys) h = ap (λ z. z ∷ ys) h.0 ∙ ap (λ zs. x ∷ zs) (cloned xs ys h.1)

pub heads : {A : Type 0} (x y : A) (xs ys : List A) → x ∷ xs ≡ y ∷ ys → (x ≡ y) × (xs ≡ ys)
heads x y xs ys e = (cc, cc)

pub all_numbers_joined : (P : ℕ → Type 0) (xs ys : List ℕ) → AllByRecursion P xs → AllByRecursion P ys → AllByRecursion P (xs ++ ys)
all_numbers_joined P [] ys h k = k
all_numbers_joined P (x ∷ xs) ys h k = (h.0, all_numbers_joined P xs ys h.1 k)

pub all_so : (P Q : ℕ → Type 0) → ((p : ℕ) → P p → Q p) → (xs : List ℕ) → AllByRecursion P xs → AllByRecursion Q xs
all_so P Q f [] h = tt
all_so P Q f (x ∷ xs) h = (f x h.0, all_so P Q f xs h.1)

pub text_turned : (x y : List ℕ) → bytes_eq x y ≡ true → bytes_eq y x ≡ true
text_turned x y e = (bytes_eq-Decides y x).1 (sym ((bytes_eq-Decides x y).0 e))

pub texts_either_way : (x y : List ℕ) → bytes_eq x y ≡ bytes_eq y x
texts_either_way x y = by (bytes_eq x y) (bytes_eq y x) refl refl
  where
    by : (a b : Bool) → bytes_eq x y ≡ a → bytes_eq y x ≡ b → a ≡ b
    by true true e f = refl
    by false false e f = refl
    by true false e f = sym (text_turned x y e) ∙ f
    by false true e f = sym e ∙ text_turned y x f

pub mapped_twice : {A B C : Type 0} (f : B → C) (g : A → B) (xs : List A) → map (λ x. f (g x)) xs ≡ map f (map g xs)
mapped_twice f g [] = refl
mapped_twice f g (x ∷ xs) = ap (λ ys. f (g x) ∷ ys) (mapped_twice f g xs)

-- one more definition, under its name
pub one_more_def : {E A C : Type 0} (view : E → C) (defs : A → List C) (es : List E) (e : E) (xs : List A) (i : ℕ) (x : A) → i < length xs → x ≡ get_or xs i x → defs x ≡ view e ∷ []
    → map view es ≡ flat_map defs (take i xs) → map view (es ++ e ∷ []) ≡ flat_map defs (take (i + 1) xs)
one_more_def view defs es e xs i x lt is d before =
    let more : take (i + 1) xs ≡ take i xs ++ x ∷ [] = take_more xs i x lt ∙ ap (λ y. take i xs ++ y ∷ []) (sym is) in
    map-append view es (e ∷ [])
    ∙ ap (λ ys. ys ++ view e ∷ []) before
    ∙ ap (λ ys. flat_map defs (take i xs) ++ ys) (sym (append-nil (defs x) ∙ d))
    ∙ sym (flat_map-append defs (take i xs) (x ∷ []))
    ∙ sym (ap (flat_map defs) more)

pub map_length : {A B : Type 0} (f : A → B) (xs : List A) → length (map f xs) ≡ length xs
map_length f [] = refl
map_length f (x ∷ xs) = ap suc (map_length f xs)

pub all_pushed : {A : Type 0} (test : A → Bool) (xs : List A) (x : A) → list_all test xs ≡ true → test x ≡ true → list_all test (xs ++ x ∷ []) ≡ true
all_pushed test [] x a p = rw p refl
all_pushed test (y ∷ ys) x a p = rw (both_left (test y) (list_all test ys) a, all_pushed test ys x (both_right (test y) (list_all test ys) a) p) refl

pub all_both : {A : Type 0} (P : A → Type 0) (xs ys : List A) → AllByRecursion P xs → AllByRecursion P ys → AllByRecursion P (xs ++ ys)
all_both P [] ys h k = k
all_both P (x ∷ xs) ys h k = (h.0, all_both P xs ys h.1 k)

pub all_flat : {A B : Type 0} (P : B → Type 0) (f : A → List B) → ((x : A) → AllByRecursion P (f x)) → (xs : List A) → AllByRecursion P (flat_map f xs)
all_flat P f g [] = tt {0}
all_flat P f g (x ∷ xs) = all_both P (f x) (flat_map f xs) (g x) (all_flat P f g xs)

pub got_there : {A : Type 0} (P : A → Type 0) (xs : List A) (i : ℕ) → AllByRecursion P xs → IfSome (slice_get xs i) P
got_there P [] i h = tt {0}
got_there P (x ∷ xs) zero h = h.0
got_there P (x ∷ xs) (suc i) h = got_there P xs i h.1

pub nil_right : {A : Type 0} (xs : List A) → xs ++ [] ≡ xs
nil_right [] = refl
nil_right (x ∷ xs) = ap (λ l. x ∷ l) (nil_right xs)

pub to_list : {A : Type 0} (P : A → Type 0) (o : Option A) → IfSome o P → AllByRecursion P (option_to_list o)
to_list P None h = tt {0}
to_list P (Some x) h = (h, tt {0})

pub item_there : {A : Type 0} (xs : List A) (n : ℕ) → n < length xs → (x : A) × (slice_get xs n ≡ Some x)
item_there [] n lt = absurd (omega (arith, lt))
item_there (x ∷ xs) zero lt = (x, refl)
item_there (x ∷ xs) (suc n) lt = item_there xs n (omega (arith, lt))

pub get_last : {A : Type 0} (xs : List A) (x : A) → slice_get (xs ++ x ∷ []) (length xs) ≡ Some x
get_last [] x = refl
get_last (y ∷ xs) x = get_last xs x

pub long_enough : {A : Type 0} (xs : List A) (i : ℕ) (x : A) → slice_get xs i ≡ Some x → length (take i xs) ≡ i
long_enough [] i x e = absurd cc
long_enough (y ∷ ys) zero x e = refl
long_enough (y ∷ ys) (suc i) x e = ap suc (long_enough ys i x e)

pub take_next : {A : Type 0} (xs : List A) (i : ℕ) (x : A) → slice_get xs i ≡ Some x → take (suc i) xs ≡ take i xs ++ x ∷ []
take_next [] i x at = absurd (cc)
take_next (y ∷ xs) zero x at = ap (λ z. z ∷ []) (some_is y x at)
take_next (y ∷ xs) (suc i) x at = ap (λ zs. y ∷ zs) (take_next xs i x at)

pub none_of_more : (has more : List ℕ → Bool) (x : List ℕ) (xs : List (List ℕ)) → ((q : List ℕ) → more q ≡ cond (bytes_eq x q) true (has q)) → list_all (λ y. not (more y)) xs ≡ (list_all (λ y. not (has y)) xs && not (list_any (bytes_eq x) xs))
none_of_more has more x [] grows = refl
none_of_more has more x (y ∷ ys) grows =
    ap (λ b. not b && list_all (λ z. not (more z)) ys) (grows y)
    ∙ ap (λ b. not (cond (bytes_eq x y) true (has y)) && b) (none_of_more has more x ys grows)
    ∙ one_more (bytes_eq x y) (has y) (list_all (λ z. not (has z)) ys) (list_any (bytes_eq x) ys)

pub none_is_seen : (has : List ℕ → Bool) (xs : List (List ℕ)) → ((q : List ℕ) → has q ≡ false) → list_all (λ x. not (has x)) xs ≡ true
none_is_seen has [] none = refl
none_is_seen has (x ∷ xs) none = ap (λ b. not b && list_all (λ y. not (has y)) xs) (none x) ∙ none_is_seen has xs none

-- an element is the same whatever stands for those that are not there
pub element_again : {A : Type 0} (xs : List A) (i : ℕ) (d e : A) → i < length xs → get_or xs i d ≡ get_or xs i e
element_again [] i d e lt = absurd (omega arith)
element_again (x ∷ xs) zero d e lt = refl
element_again (x ∷ xs) (suc i) d e lt = element_again xs i d e (omega arith)

pub all_push : {X : Type 0} (P : X → Type 0) (xs : List X) (y : X) → AllByRecursion P xs → P y → AllByRecursion P (xs ++ y ∷ [])
all_push P [] y h p = (p, tt)
all_push P (x ∷ xs) y h p = (h.0, all_push P xs y h.1 p)

pub get_front : {E : Type 0} (xs ys : List E) (n : ℕ) (e : E) → slice_get xs n ≡ Some e → slice_get (xs ++ ys) n ≡ Some e
get_front [] ys n e h = absurd cc
get_front (x ∷ xs) ys zero e h = h
get_front (x ∷ xs) ys (suc n) e h = get_front xs ys n e h

pub get_left : {E : Type 0} (xs ys : List E) (n : ℕ) → n < length xs → slice_get (xs ++ ys) n ≡ slice_get xs n
get_left [] ys n lt = absurd (omega (arith, lt))
get_left (x ∷ xs) ys zero lt = refl
get_left (x ∷ xs) ys (suc n) lt = get_left xs ys n (omega (arith, lt))

pub take_one : {A : Type 0} (xs : List A) (n : ℕ) (x : A) → slice_get xs n ≡ Some x → take (n + 1) xs ≡ take n xs ++ x ∷ []
take_one xs n x h = take_more xs n x (slice_get_within xs n x h) ∙ ap (λ y. take n xs ++ y ∷ []) (get_or_from_slice_get xs n x x h)

pub all_cons : {A : Type 0} (P : A → Type 0) (x : A) (xs : List A) → P x → All P xs → All P (x ∷ xs)
all_cons P x xs p rest zero d lt = p
all_cons P x xs p rest (suc k) d lt = rest k d (omega (arith, lt))

pub cons_in : {A : Type 0} (x y : A) (xs : List A) → Contains xs x → Contains (y ∷ xs) x
cons_in x y xs c = (suc c.0, omega (arith, c.1), c.2)

pub head_in : {A : Type 0} (x y : A) (xs : List A) → y ≡ x → Contains (y ∷ xs) x
head_in x y xs e = (0, omega arith, e)

pub in_cons : {A : Type 0} (x y : A) (xs : List A) → Contains (y ∷ xs) x → (y ≡ x) ⊎ Contains xs x
in_cons x y xs (zero, lt, e) = inl e
in_cons x y xs (suc k, lt, e) = inr (k, omega (arith, lt), e)

pub none_in : {A : Type 0} (x : A) → Contains [] x → ⊥
none_in x h = omega (arith, h.1)

pub not_past : (marks : List Bool) (x : ℕ) → get_or marks x false ≡ true → x < length marks
not_past [] x e = absurd cc
not_past (m ∷ marks) zero e = omega arith
not_past (m ∷ marks) (suc x) e = omega (arith, not_past marks x e)

pub only_in : (a x : ℕ) → Contains (x ∷ []) a → a ≡ x
only_in a x (zero, h, e) = sym e
only_in a x (suc k, h, e) = absurd (omega (arith, h))

pub length_push : (xs : List ℕ) (a : ℕ) → length (xs ++ a ∷ []) ≡ suc (length xs)
length_push [] a = refl
length_push (x ∷ xs) a = ap suc (length_push xs a)

pub got_at : {A : Type 0} (P : A → Type 0) (xs : List A) (i : ℕ) (x : A) → AllByRecursion P xs → slice_get xs i ≡ Some x → P x
got_at P xs i x h e = subst (λ o. IfSome o P) e (got_there P xs i h)

pub get_map : {A B : Type 0} (f : A → B) (xs : List A) (k : ℕ) (x : A) → slice_get xs k ≡ Some x → slice_get (map f xs) k ≡ Some (f x)
get_map f [] k x h = cc h
get_map f (y ∷ ys) zero x h = ap (option_map f) h
get_map f (y ∷ ys) (suc k) x h = get_map f ys k x h

pub next_element : {A B : Type 0} (view : A → B) (xs : List A) (i : ℕ) (x : A) → i < length xs → x ≡ get_or xs i x → map view (drop i xs) ≡ view x ∷ map view (drop (i + 1) xs)
next_element {A} view xs i x lt is = ap (map view) (drop_more xs i x lt ∙ ap (λ (a : A). a ∷ drop (i + 1) xs) (sym is))

-- these behind those
abbrev pub behind : {B : Type 0} → List B → Option (List B) → Option (List B)
behind front o = option_map (λ ys. front ++ ys) o

pub behind_none : {B : Type 0} (o : Option (List B)) → behind [] o ≡ o
behind_none None = refl
behind_none (Some ys) = refl

pub behind_one : {B : Type 0} (front : List B) (y : B) (o : Option (List B)) → behind (front ++ y ∷ []) o ≡ behind front (option_map (λ ys. y ∷ ys) o)
behind_one front y None = refl
behind_one front y (Some ys) = ap Some (append_assoc front (y ∷ []) ys)

-- What stands there is what the first elements are, and the rest of them make all.
pub record Shows {A B C : Type 0} (view : A → B) (shown : C → B) (xs : List A) (i : ℕ) (out : List C) : Type 0 where
  pub is : map shown out ++ map view (drop i xs) ≡ map view xs

pub shows_end : {A B C : Type 0} (view : A → B) (shown : C → B) (xs : List A) (i : ℕ) (out : List C) → length xs ≤ i → Shows view shown xs i out → map shown out ≡ map view xs
shows_end {A} {B} {C} view shown xs i out le f = sym (append-nil (map shown out)) ∙ (sym (ap (λ (l : List A). map shown out ++ map view l) (drop_all i xs le)) ∙ f.is)

pub shows_push : {A B C : Type 0} (view : A → B) (shown : C → B) (xs : List A) (i : ℕ) (out : List C) (x : A) (c : C) → i < length xs → x ≡ get_or xs i x → shown c ≡ view x → Shows view shown xs i out → Shows view shown xs (i + 1) (out ++ c ∷ [])
shows_push {A} {B} {C} view shown xs i out x c lt e same f = record {
  is = ap (λ (l : List B). l ++ map view (drop (i + 1) xs)) (map-append shown out (c ∷ []))
      ∙ (append_assoc (map shown out) (shown c ∷ []) (map view (drop (i + 1) xs))
      ∙ (ap (λ (b : B). map shown out ++ b ∷ map view (drop (i + 1) xs)) same
      ∙ (sym (ap (λ (l : List B). map shown out ++ l) (ap (map view) (drop_more xs i x lt ∙ ap (λ (a : A). a ∷ drop (i + 1) xs) (sym e)))) ∙ f.is)));
}

pub shows_start : {A B C : Type 0} (view : A → B) (shown : C → B) (xs : List A) → Shows view shown xs 0 []
shows_start view shown xs = record { is = refl }

pub all_left : {A : Type 0} (P : A → Type 0) (xs ys : List A) → AllByRecursion P (xs ++ ys) → AllByRecursion P xs
all_left P [] ys h = tt
all_left P (x ∷ xs) ys h = (h.0, all_left P xs ys h.1)

pub all_right : {A : Type 0} (P : A → Type 0) (xs ys : List A) → AllByRecursion P (xs ++ ys) → AllByRecursion P ys
all_right P [] ys h = h
all_right P (x ∷ xs) ys h = all_right P xs ys h.1

pub all_found : {A : Type 0} (p : A → Bool) (xs : List A) (k : ℕ) (x : A) → list_all p xs ≡ true → slice_get xs k ≡ Some x → p x ≡ true
all_found p [] k x h e = absurd cc
all_found {A} p (y ∷ xs) zero x h e = let same : y ≡ x = cc in subst (λ (z : A). p z ≡ true) same (both_true (p y) (list_all p xs) h).0
all_found p (y ∷ xs) (suc k) x h e = all_found p xs k x (both_true (p y) (list_all p xs) h).1 e

-- What stands there, and what the rest gives, which begins with the i-th, make all.
pub record Makes {A B C D : Type 0} (view : A → B) (F : ℕ → List B → List D) (shown : C → D) (xs : List A) (i : ℕ) (start out : List C) : Type 0 where
  pub is : map shown out ++ F i (map view (drop i xs)) ≡ map shown start ++ F 0 (map view xs)

pub makes_all : {A B C D : Type 0} (view : A → B) (F : ℕ → List B → List D) (shown : C → D) (xs : List A) (i : ℕ) (start out : List C) → length xs ≤ i → F i [] ≡ [] → Makes view F shown xs i start out → map shown out ≡ map shown start ++ F 0 (map view xs)
makes_all {A} {B} {C} {D} view F shown xs i start out le none f = sym (append-nil (map shown out)) ∙ (sym (ap (λ (l : List D). map shown out ++ l) none) ∙ (sym (ap (λ (ys : List A). map shown out ++ F i (map view ys)) (drop_all i xs le)) ∙ f.is))

pub makes_join : {A B C D : Type 0} (view : A → B) (F : ℕ → List B → List D) (shown : C → D) (xs : List A) (i : ℕ) (start out next : List C) (part : List D) (x : A) → i < length xs → x ≡ get_or xs i x → map shown next ≡ map shown out ++ part → ((ys : List B) → F i (view x ∷ ys) ≡ part ++ F (i + 1) ys) → Makes view F shown xs i start out → Makes view F shown xs (i + 1) start next
makes_join {A} {B} {C} {D} view F shown xs i start out next part x lt e n s f = record {
  is = ap (λ (l : List D). l ++ F (i + 1) (map view (drop (i + 1) xs))) n
      ∙ (append_assoc (map shown out) part (F (i + 1) (map view (drop (i + 1) xs)))
      ∙ (sym (ap (λ (l : List D). map shown out ++ l) (s (map view (drop (i + 1) xs))))
      ∙ (sym (ap (λ (ys : List B). map shown out ++ F i ys) (next_element view xs i x lt e)) ∙ f.is)));
}

pub makes_none : {A B C D : Type 0} (view : A → B) (F : ℕ → List B → List D) (shown : C → D) (xs : List A) (start : List C) → Makes view F shown xs 0 start start
makes_none view F shown xs start = record { is = refl }

pub makes_push : {A B C D : Type 0} (view : A → B) (F : ℕ → List B → List D) (shown : C → D) (xs : List A) (i : ℕ) (start out : List C) (x : A) (c : C) → i < length xs → x ≡ get_or xs i x → ((ys : List B) → F i (view x ∷ ys) ≡ shown c ∷ F (i + 1) ys) → Makes view F shown xs i start out → Makes view F shown xs (i + 1) start (out ++ c ∷ [])
makes_push view F shown xs i start out x c lt e s f = makes_join view F shown xs i start out (out ++ c ∷ []) (shown c ∷ []) x lt e (map-append shown out (c ∷ [])) s f

pub position_below : {A : Type 0} (p : A → Bool) (i : ℕ) (xs : List A) (k : ℕ) → position_from p i xs ≡ Some k → k < i + length xs
position_below p i [] k e = absurd cc
position_below p i (x ∷ xs) k e = below_by (p x) i (length xs) k (position_from p (i + 1) xs) (position_below p (i + 1) xs k) e

pub got_within : {A : Type 0} (xs : List A) (k : ℕ) → k < length xs → Has (slice_get xs k)
got_within [] k lt = absurd (omega (arith, lt))
got_within (x ∷ xs) zero lt = (x, refl)
got_within (x ∷ xs) (suc k) lt = got_within xs k (omega (arith, lt))

pub in_head : {A : Type 0} (x : A) (xs : List A) → Contains (x ∷ xs) x
in_head x xs = (0, omega arith, refl)
