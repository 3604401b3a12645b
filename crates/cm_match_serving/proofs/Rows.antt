-- Lists of what is said of each component of a set.
use Rattle.std.proofs.Common.{◌≡◌, ◌∙◌, ℕ, zero, suc, ◌+◌, ◌<◌, ◌≤◌, List, [], ◌∷◌, ◌++◌, Some, length, get_or, map, take, slice_get, refl, sym, ap, arith, append_assoc, length-take}
use Rattle.std.proofs.lemmas.Option.{slice_get-get_or, slice_get-map, slice_get_within}
use Rattle.std.specs.Option.{option_map}
use Rattle.cm_match_model.specs.Fitting.{NamedExport, named_export}
use Rattle.cm_validate_model.specs.Definitions as definitions
use Rattle.cm_validate_model.specs.Spaces.{Spaces}
use Rattle.cm_validate_spaces.specs.Checked.{spaces_in}
use Rattle.cm_validate_spaces.specs.declared.checked.Checked.{Checked}
use Rattle.cm_match_model.specs.Imports.{all_exports_from, exports_before, exports_from}
use Rattle.cm_match_serving.specs.Candidates.{each_from}
use Rattle.cm_match_serving.specs.Sets.{spaces_of_all}
use Rattle.cm_lemmas.proofs.Lists.{map_length, nil_right, take_all, take_one}
use Rattle.cm_match_serving.proofs.Judging.{set_length}

-- ---- what stands at a place

pub read_at : {A : Type 0} (xs : List A) (n : ℕ) (x : A) → n < length xs → x ≡ get_or xs n x → slice_get xs n ≡ Some x
read_at xs n x lt is = slice_get-get_or xs n x lt ∙ ap Some (sym is)

pub set_at : (cs : List Checked) (k : ℕ) → slice_get (spaces_of_all cs) k ≡ option_map spaces_in (slice_get cs k)
set_at [] zero = refl
set_at [] (suc k) = refl
set_at (c ∷ cs) zero = refl
set_at (c ∷ cs) (suc k) = set_at cs k

pub taken_length : {A : Type 0} (xs : List A) (n : ℕ) (x : A) → slice_get xs n ≡ Some x → 0 + length (take n xs) ≡ n
taken_length xs n x h = let lt = slice_get_within xs n x h in simp length-take (omega arith)

pub mapped_last : {A B : Type 0} (f : A → B) (xs : List A) (x : A) → map f (xs ++ x ∷ []) ≡ map f xs ++ f x ∷ []
mapped_last f [] x = refl
mapped_last f (y ∷ ys) x = ap (λ zs. f y ∷ zs) (mapped_last f ys x)

pub mapped_twice : {A B C : Type 0} (g : B → C) (f : A → B) (xs : List A) → map g (map f xs) ≡ map (λ x. g (f x)) xs
mapped_twice g f [] = refl
mapped_twice g f (x ∷ xs) = ap (λ zs. g (f x) ∷ zs) (mapped_twice g f xs)

-- ---- rows

each_last : {A B : Type 0} (f : ℕ → A → B) (n : ℕ) (xs : List A) (x : A) → each_from f n (xs ++ x ∷ []) ≡ each_from f n xs ++ f (n + length xs) x ∷ []
each_last f n [] x = ap (λ k. f k x ∷ []) (omega arith)
each_last f n (y ∷ ys) x =
    let same : (n + 1) + length ys ≡ n + length (y ∷ ys) = omega arith in
    ap (λ rs. f n y ∷ rs) (each_last f (n + 1) ys x) ∙ ap (λ k. f n y ∷ (each_from f (n + 1) ys ++ f k x ∷ [])) same

pub each_next : {A B : Type 0} (f : ℕ → A → B) (xs : List A) (n : ℕ) (x : A) → slice_get xs n ≡ Some x → each_from f 0 (take (n + 1) xs) ≡ each_from f 0 (take n xs) ++ f n x ∷ []
each_next f xs n x h =
    ap (each_from f 0) (take_one xs n x h) ∙ each_last f 0 (take n xs) x
    ∙ ap (λ k. each_from f 0 (take n xs) ++ f k x ∷ []) (taken_length xs n x h)

pub each_next_of : {A B C : Type 0} (f : ℕ → B → C) (g : A → B) (xs : List A) (n : ℕ) (x : A) → slice_get xs n ≡ Some x → each_from f 0 (map g (take (n + 1) xs)) ≡ each_from f 0 (map g (take n xs)) ++ f n (g x) ∷ []
each_next_of f g xs n x h =
    let places : 0 + length (map g (take n xs)) ≡ n = ap (λ k. 0 + k) (map_length g (take n xs)) ∙ taken_length xs n x h in
    ap (λ ys. each_from f 0 (map g ys)) (take_one xs n x h) ∙ ap (each_from f 0) (mapped_last g (take n xs) x) ∙ each_last f 0 (map g (take n xs)) (g x)
    ∙ ap (λ k. each_from f 0 (map g (take n xs)) ++ f k (g x) ∷ []) places

pub each_at : {A B : Type 0} (f : ℕ → A → B) (n : ℕ) (xs : List A) (k : ℕ) → slice_get (each_from f n xs) k ≡ option_map (f (n + k)) (slice_get xs k)
each_at f n [] zero = refl
each_at f n [] (suc k) = refl
each_at f n (x ∷ xs) zero = ap (λ m. Some (f m x)) (omega arith)
each_at f n (x ∷ xs) (suc k) =
    let same : (n + 1) + k ≡ n + suc k = omega arith in
    each_at f (n + 1) xs k ∙ ap (λ m. option_map (f m) (slice_get xs k)) same

-- the rows of all components
pub all_rows : {A R : Type 0} (f : ℕ → Spaces → A) (view : R → A) (cs : List Checked) (n : ℕ) (rows : List R) → length cs ≤ n
    → map view rows ≡ each_from f 0 (take n (spaces_of_all cs)) → (k : ℕ) → option_map view (slice_get rows k) ≡ option_map (f k) (slice_get (spaces_of_all cs) k)
all_rows f view cs n rows le is k =
    sym (slice_get-map view rows k) ∙ ap (λ rs. slice_get rs k) (is ∙ ap (each_from f 0) (take_all (spaces_of_all cs) n (omega (arith, le, set_length cs))))
    ∙ each_at f 0 (spaces_of_all cs) k ∙ ap (λ m. option_map (f m) (slice_get (spaces_of_all cs) k)) zero_more
  where
    zero_more : 0 + k ≡ k
    zero_more = omega arith

-- ---- exports

exports_last : (component n : ℕ) (xs : List definitions.NamedExport) (x : definitions.NamedExport) → exports_from component n (xs ++ x ∷ []) ≡ exports_from component n xs ++ named_export component (n + length xs) x.name ∷ []
exports_last component n [] x = ap (λ k. named_export component k x.name ∷ []) (omega arith)
exports_last component n (y ∷ ys) x =
    let same : (n + 1) + length ys ≡ n + length (y ∷ ys) = omega arith in
    ap (λ es. named_export component n y.name ∷ es) (exports_last component (n + 1) ys x)
    ∙ ap (λ k. named_export component n y.name ∷ (exports_from component (n + 1) ys ++ named_export component k x.name ∷ [])) same

-- one export more
pub exports_next : {A : Type 0} (before : List NamedExport) (component : ℕ) (f : A → definitions.NamedExport) (xs : List A) (n : ℕ) (x : A) → slice_get xs n ≡ Some x
    → (before ++ exports_from component 0 (map f (take n xs))) ++ named_export component n (f x).name ∷ [] ≡ before ++ exports_from component 0 (map f (take (n + 1) xs))
exports_next before component f xs n x h =
    let es = exports_from component 0 (map f (take n xs)) in
    let places : 0 + length (map f (take n xs)) ≡ n = ap (λ k. 0 + k) (map_length f (take n xs)) ∙ taken_length xs n x h in
    append_assoc before es (named_export component n (f x).name ∷ [])
    ∙ sym (ap (λ ys. before ++ ys) (ap (λ ys. exports_from component 0 (map f ys)) (take_one xs n x h) ∙ ap (exports_from component 0) (mapped_last f (take n xs) x) ∙ exports_last component 0 (map f (take n xs)) (f x)
    ∙ ap (λ k. es ++ named_export component k (f x).name ∷ []) places))

all_last : (n : ℕ) (ss : List Spaces) (s : Spaces) → all_exports_from n (ss ++ s ∷ []) ≡ all_exports_from n ss ++ exports_from (n + length ss) 0 s.exports
all_last n [] s = nil_right (exports_from n 0 s.exports) ∙ ap (λ k. exports_from k 0 s.exports) (omega arith)
all_last n (t ∷ ts) s =
    let same : (n + 1) + length ts ≡ n + length (t ∷ ts) = omega arith in
    ap (λ es. exports_from n 0 t.exports ++ es) (all_last (n + 1) ts s ∙ ap (λ k. all_exports_from (n + 1) ts ++ exports_from k 0 s.exports) same)
    ∙ sym (append_assoc (exports_from n 0 t.exports) (all_exports_from (n + 1) ts) (exports_from (n + length (t ∷ ts)) 0 s.exports))

-- the exports of one component more
pub before_next : (set : List Spaces) (n : ℕ) (s : Spaces) → slice_get set n ≡ Some s → exports_before set (n + 1) ≡ exports_before set n ++ exports_from n 0 s.exports
before_next set n s h =
    ap (all_exports_from 0) (take_one set n s h) ∙ all_last 0 (take n set) s
    ∙ ap (λ k. all_exports_from 0 (take n set) ++ exports_from k 0 s.exports) (taken_length set n s h)
