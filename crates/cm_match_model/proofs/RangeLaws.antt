-- What the caret of a version allows, as a range.
use Rattle.std.proofs.Common.{◌≡◌, ◌∙◌, ℕ, ◌+◌, Bool, true, false, List, [], ◌∷◌, length, Option, Some, None, Ok, refl, sym, ap, arith, inl, inr}
use Rattle.std.proofs.lemmas.Bool.{cases_Bool}
use Rattle.std.proofs.lemmas.Grind.{common_steps}
use Rattle.std.proofs.lemmas.Slice.Eq.{bytes_eq-Decides}
use Rattle.std.specs.Ordering.{is_lt}
use Rattle.std.specs.Prelude.{IsTrue, if◌then◌else◌, nat_lt, not, ◌&&◌, ◌||◌, ◌==◌}
use Rattle.std.specs.Str.{bytes_eq}
use Rattle.semver.specs.Order.{pre_cmp}
use Rattle.semver.specs.OrderLaws.{pre_cmp-left}
use Rattle.semver.specs.Parse.{Parts, version_parts}
use Rattle.cm_types.specs.ExternNames.{NameTree, constructor, form_of, interface, is_version, method, plain, static, version_of}
use Rattle.cm_match_model.specs.Fitting.{fits, is_compatible, is_compatible_name}
use Rattle.cm_match_model.specs.Ranges.{comes_before, is_later_prerelease, next_incompatible, numbers}
use Rattle.cm_match_model.proofs.Carets.{allows_is, caret_at, caret_numbers, of_release}
use Rattle.cm_match_model.proofs.Compatible.{allows_itself, compatible_is, version_read}

not_empty : (b : ℕ) (rest : List ℕ) → (length (b ∷ rest) == 0) ≡ false
not_empty b rest = grind (arith, common_steps)

-- a release is not before any version of the same numbers
release_last : (p : List ℕ) → is_lt (pre_cmp [] p) ≡ false
release_last [] = refl
release_last (b ∷ rest) = ap is_lt (pre_cmp-left [] (b ∷ rest) refl (not_empty b rest))

range_major : (a b c x y z : ℕ) → nat_lt 0 a ≡ true → caret_numbers a b c x y z false ≡ (not (nat_lt x a || ((x == a) && (nat_lt y b || ((y == b) && nat_lt z c)))) && nat_lt x (a + 1))
range_major a b c x y z h = rw h (grind (arith, common_steps))

range_minor : (a b c x y z : ℕ) → nat_lt 0 a ≡ false → nat_lt 0 b ≡ true
    → caret_numbers a b c x y z false ≡ (not (nat_lt x a || ((x == a) && (nat_lt y b || ((y == b) && nat_lt z c)))) && (nat_lt x 0 || ((x == 0) && nat_lt y (b + 1))))
range_minor a b c x y z h k = let zero : a ≡ 0 = grind (arith, common_steps) in rw (h, k, zero) (grind (arith, common_steps))

range_patch : (a b c x y z : ℕ) → nat_lt 0 a ≡ false → nat_lt 0 b ≡ false
    → caret_numbers a b c x y z false ≡ (not (nat_lt x a || ((x == a) && (nat_lt y b || ((y == b) && nat_lt z c)))) && (nat_lt x 0 || ((x == 0) && (nat_lt y 0 || ((y == 0) && nat_lt z (c + 1))))))
range_patch a b c x y z h k =
    let zero : a ≡ 0 = grind (arith, common_steps) in
    let none : b ≡ 0 = grind (arith, common_steps) in
    rw (h, k, zero, none) (grind (arith, common_steps))

range_glue : (C R L Q : Bool) → L ≡ true → C ≡ R → ((C && true) && (L || Q)) ≡ R
range_glue C R L Q h k = grind (arith, common_steps)

-- the numbers that the caret allows
range_numbers : (a b c x y z : ℕ) → caret_numbers a b c x y z false
    ≡ (not (nat_lt x a || ((x == a) && (nat_lt y b || ((y == b) && nat_lt z c))))
    && (if nat_lt 0 a then nat_lt x (a + 1)
    else if nat_lt 0 b then (nat_lt x 0 || ((x == 0) && nat_lt y (b + 1)))
    else (nat_lt x 0 || ((x == 0) && (nat_lt y 0 || ((y == 0) && nat_lt z (c + 1)))))))
range_numbers a b c x y z =
    let low = not (nat_lt x a || ((x == a) && (nat_lt y b || ((y == b) && nat_lt z c)))) in
    let third = nat_lt x 0 || ((x == 0) && (nat_lt y 0 || ((y == 0) && nat_lt z (c + 1)))) in
    let second = nat_lt x 0 || ((x == 0) && nat_lt y (b + 1)) in
    elim (cases_Bool (nat_lt 0 a)) [
      | inl p ↦ range_major a b c x y z p ∙ sym (ap (λ t. low && (if t then nat_lt x (a + 1) else if nat_lt 0 b then second else third)) p)
      | inr n ↦ elim (cases_Bool (nat_lt 0 b)) [
        | inl p ↦ range_minor a b c x y z n p ∙ sym (ap (λ t. low && (if t then nat_lt x (a + 1) else if nat_lt 0 b then second else third)) n ∙ ap (λ t. low && (if t then second else third)) p)
        | inr k ↦ range_patch a b c x y z n k ∙ sym (ap (λ t. low && (if t then nat_lt x (a + 1) else if nat_lt 0 b then second else third)) n ∙ ap (λ t. low && (if t then second else third)) k)
      ]
    ]

prerelease_numbers : (a b c x y z : ℕ) (s L P : Bool) → L ≡ false
    → ((caret_numbers a b c x y z s && true) && (L || (((a == x) && (b == y) && (c == z) && not P) || false)))
    ≡ ((a == x) && (b == y) && (c == z) && not P && not s)
prerelease_numbers a b c x y z s L P h = grind (arith, common_steps)

major_zeros : (x y z a : ℕ) → (nat_lt x a || ((x == a) && (nat_lt y 0 || ((y == 0) && nat_lt z 0)))) ≡ nat_lt x a
major_zeros x y z a = grind (arith, common_steps)

minor_zeros : (x y z b : ℕ) → (nat_lt x 0 || ((x == 0) && (nat_lt y b || ((y == b) && nat_lt z 0)))) ≡ (nat_lt x 0 || ((x == 0) && nat_lt y b))
minor_zeros x y z b = grind (arith, common_steps)

-- nothing comes before what ends in zeros but by what stands in front of them
ends_in_zeros : (p q : Parts) → comes_before q (next_incompatible p)
    ≡ (if nat_lt 0 p.0 then nat_lt q.0 (p.0 + 1)
    else if nat_lt 0 p.1 then (nat_lt q.0 0 || ((q.0 == 0) && nat_lt q.1 (p.1 + 1)))
    else (nat_lt q.0 0 || ((q.0 == 0) && (nat_lt q.1 0 || ((q.1 == 0) && nat_lt q.2 (p.2 + 1))))))
ends_in_zeros p q = elim (cases_Bool (nat_lt 0 p.0)) [
  | inl y ↦ rw y (major_zeros q.0 q.1 q.2 (p.0 + 1))
  | inr n ↦ elim (cases_Bool (nat_lt 0 p.1)) [
    | inl y ↦ rw (n, y) (minor_zeros q.0 q.1 q.2 (p.1 + 1))
    | inr k ↦ rw (n, k) refl
  ]
]

pub release_range : (v w : List ℕ) (p q : Parts) → version_parts v ≡ Ok p → version_parts w ≡ Ok q → q.3 ≡ []
    → is_compatible v w ≡ (not (comes_before q (numbers p)) && comes_before q (next_incompatible p))
release_range v w p q h k e =
    compatible_is v w p q h k ∙ allows_is p q
    ∙ range_glue (caret_at p q) _ (length q.3 == 0) (of_release p q) (ap (λ (t : List ℕ). length t == 0) e)
    (ap (caret_numbers p.0 p.1 p.2 q.0 q.1 q.2) (ap (λ t. is_lt (pre_cmp t p.3)) e ∙ release_last p.3) ∙ range_numbers p.0 p.1 p.2 q.0 q.1 q.2)
    ∙ sym (ap (λ t. not (comes_before q (numbers p)) && t) (ends_in_zeros p q))

pub prerelease_range : (v w : List ℕ) (p q : Parts) → version_parts v ≡ Ok p → version_parts w ≡ Ok q → (length q.3 == 0) ≡ false
    → is_compatible v w ≡ is_later_prerelease p q
prerelease_range v w p q h k e =
    compatible_is v w p q h k ∙ allows_is p q
    ∙ prerelease_numbers p.0 p.1 p.2 q.0 q.1 q.2 (is_lt (pre_cmp q.3 p.3)) (length q.3 == 0) (length p.3 == 0) e

pub compatible_itself : (v : List ℕ) → IsTrue (is_version v) → is_compatible v v ≡ true
compatible_itself v h = let p = version_read v h in compatible_is v v p.parts p.parts p.is p.is ∙ allows_itself p.parts

pub fits_itself : (name : List ℕ) → fits name name ≡ true
fits_itself name = ap (λ t. t || is_compatible_name (form_of name) (form_of name)) ((bytes_eq-Decides name name).1 refl)

alone_first : (t : NameTree) (o : Option NameTree) → version_of t ≡ None → is_compatible_name (Some t) o ≡ false
alone_first (plain l) o h = refl
alone_first (method r m) o h = refl
alone_first (static r m) o h = refl
alone_first (constructor r) o h = refl
alone_first (interface n p i None) o h = refl
alone_first (interface n p i (Some v)) o h = cc h

alone_second : (o : Option NameTree) (t : NameTree) → version_of t ≡ None → is_compatible_name o (Some t) ≡ false
alone_second None t h = refl
alone_second (Some (plain l)) t h = refl
alone_second (Some (method r m)) t h = refl
alone_second (Some (static r m)) t h = refl
alone_second (Some (constructor r)) t h = refl
alone_second (Some (interface n p i None)) t h = refl
alone_second (Some (interface n p i (Some v))) (plain l) h = refl
alone_second (Some (interface n p i (Some v))) (method r m) h = refl
alone_second (Some (interface n p i (Some v))) (static r m) h = refl
alone_second (Some (interface n p i (Some v))) (constructor r) h = refl
alone_second (Some (interface n p i (Some v))) (interface m q j None) h = refl
alone_second (Some (interface n p i (Some v))) (interface m q j (Some w)) h = cc h

or_no : (b c : Bool) → c ≡ false → (b || c) ≡ b
or_no true c h = refl
or_no false c h = h

pub wanted_alone : (a b : List ℕ) (t : NameTree) → form_of a ≡ Some t → version_of t ≡ None → fits a b ≡ bytes_eq a b
wanted_alone a b t f h = or_no (bytes_eq a b) (is_compatible_name (form_of a) (form_of b)) (ap (λ o. is_compatible_name o (form_of b)) f ∙ alone_first t (form_of b) h)

pub exported_alone : (a b : List ℕ) (t : NameTree) → form_of b ≡ Some t → version_of t ≡ None → fits a b ≡ bytes_eq a b
exported_alone a b t f h = or_no (bytes_eq a b) (is_compatible_name (form_of a) (form_of b)) (ap (is_compatible_name (form_of a)) f ∙ alone_second (form_of a) t h)
