-- The lines of a plan, component by component.
use Rattle.std.proofs.Common.{◌≡◌, ◌∙◌, ℕ, zero, suc, ◌+◌, ◌≤◌, List, [], ◌∷◌, ◌++◌, length, take, drop, Some, slice_get, refl, sym, ap, subst, arith}
use Rattle.std.proofs.Math.Logic.{∥∥₁_elim}
use Rattle.std.proofs.lemmas.Grind.{flat_map-append}
use Rattle.std.proofs.lemmas.List.{length-append}
use Rattle.std.specs.Coded.{le_prop}
use Rattle.std.specs.Prelude.{option_to_list}
use Rattle.std.specs.List.{AllByRecursion}
use Rattle.std.specs.Option.{option_map}
use Rattle.cm_lemmas.proofs.Lists.{all_left, all_right}
use Rattle.cm_validate_model.specs.Spaces.{Spaces}
use Rattle.cm_match_model.specs.declared.plan.PlanLine.{PlanLine}
use Rattle.cm_match_model.specs.Imports.{ImportAt, LinkSet, all_imports_from, imports_from, imports_of, link_of}
use Rattle.cm_match_model.specs.Links.{CanBeLinked, IsServed, lines_of, plan_line}
use Rattle.cm_match.specs.Before.{imports_at}
use Rattle.cm_match.proofs.Walking.{imports_length, imports_here}

-- ---- lists

module _ {A : Type 0} where
  drop_got : (xs : List A) (n : ℕ) (x : A) → slice_get xs n ≡ Some x → drop n xs ≡ x ∷ drop (suc n) xs
  drop_got [] n x e = absurd cc
  drop_got (y ∷ ys) zero x e = ap (λ z. z ∷ ys) cc
  drop_got (y ∷ ys) (suc n) x e = drop_got ys n x e

  take_front : (k : ℕ) (xs ys : List A) → length xs ≡ k → take k (xs ++ ys) ≡ xs
  take_front zero [] ys e = refl
  take_front (suc k) [] ys e = absurd (omega (arith, e))
  take_front zero (x ∷ xs) ys e = absurd (omega (arith, e))
  take_front (suc k) (x ∷ xs) ys e = ap (λ l. x ∷ l) (take_front k xs ys (omega (arith, e)))

  drop_front : (k : ℕ) (xs ys : List A) → length xs ≡ k → drop k (xs ++ ys) ≡ ys
  drop_front zero [] ys e = refl
  drop_front (suc k) [] ys e = absurd (omega (arith, e))
  drop_front zero (x ∷ xs) ys e = absurd (omega (arith, e))
  drop_front (suc k) (x ∷ xs) ys e = drop_front k xs ys (omega (arith, e))

-- ---- imports of a component

-- what holds of all imports holds of those of a component
pub all_here : (P : ImportAt → Type 0) (c : ℕ) (ss : List Spaces) (n : ℕ) (s : Spaces) → AllByRecursion P (all_imports_from c ss) → slice_get ss n ≡ Some s → AllByRecursion P (imports_from (c + n) 0 s.imports)
all_here P c [] n s all e = absurd cc
all_here P c (t ∷ ss) zero s all e =
    let same : t ≡ s = cc in
    subst (λ m. AllByRecursion P (imports_from m 0 s.imports)) (omega arith)
    (subst (λ (u : Spaces). AllByRecursion P (imports_from c 0 u.imports)) same (all_left P (imports_from c 0 t.imports) (all_imports_from (c + 1) ss) all))
all_here P c (t ∷ ss) (suc n) s all e =
    subst (λ m. AllByRecursion P (imports_from m 0 s.imports)) (omega arith)
    (all_here P (c + 1) ss n s (all_right P (imports_from c 0 t.imports) (all_imports_from (c + 1) ss) all) e)

-- ---- lines

-- each import that is served has a line
lines_length : (set : LinkSet) (is : List ImportAt) → AllByRecursion (IsServed set) is → length (lines_of set is) ≡ length is
lines_length set [] served = refl
lines_length set (i ∷ is) served = rw served.0.linked (ap suc (lines_length set is served.1))

-- the lines from a component on: its own, and those behind
module _ (set : LinkSet) (c : ℕ) (s : Spaces) (there : slice_get set.spaces c ≡ Some s) where
  from_here : lines_of set (all_imports_from c (drop c set.spaces)) ≡ lines_of set (imports_at set.spaces c) ++ lines_of set (all_imports_from (suc c) (drop (suc c) set.spaces))
  from_here =
      ap (λ ss. lines_of set (all_imports_from c ss)) (drop_got set.spaces c s there)
      ∙ flat_map-append (λ i. option_to_list (option_map (plan_line i) (link_of set i))) (imports_from c 0 s.imports) (all_imports_from (c + 1) (drop (suc c) set.spaces))
      ∙ ap (λ is. lines_of set is ++ lines_of set (all_imports_from (c + 1) (drop (suc c) set.spaces))) (sym (imports_here set.spaces c s there))
      ∙ ap (λ n. lines_of set (imports_at set.spaces c) ++ lines_of set (all_imports_from n (drop (suc c) set.spaces))) (omega arith)

  own_length : AllByRecursion (IsServed set) (imports_of set.spaces) → length (lines_of set (imports_at set.spaces c)) ≡ length s.imports
  own_length served =
      ap (λ is. length (lines_of set is)) (imports_here set.spaces c s there)
      ∙ lines_length set (imports_from c 0 s.imports) (subst (λ n. AllByRecursion (IsServed set) (imports_from n 0 s.imports)) (omega arith) (all_here (IsServed set) 0 set.spaces c s served there))
      ∙ imports_length c 0 s.imports

pub each_has_line : (set : LinkSet) → ∥ CanBeLinked set ∥₁ → (c : ℕ) (s : Spaces) → slice_get set.spaces c ≡ Some s → length (lines_of set (imports_at set.spaces c)) ≡ length s.imports
each_has_line set merely c s there =
    let le : length (lines_of set (imports_at set.spaces c)) ≤ length s.imports = ∥∥₁_elim merely le_prop (λ can. omega (arith, own_length set c s there can.served)) in
    let ge : length s.imports ≤ length (lines_of set (imports_at set.spaces c)) = ∥∥₁_elim merely le_prop (λ can. omega (arith, own_length set c s there can.served)) in
    omega (arith, le, ge)

module _ (set : LinkSet) (merely : ∥ CanBeLinked set ∥₁) (c : ℕ) (s : Spaces) (there : slice_get set.spaces c ≡ Some s) (k : ℕ) (count : k ≡ length s.imports) (lines : List PlanLine) (rest : lines ≡ lines_of set (all_imports_from c (drop c set.spaces))) where
  own : length (lines_of set (imports_at set.spaces c)) ≡ k
  own = each_has_line set merely c s there ∙ sym count

  pub own_fit : k ≤ length lines
  own_fit =
      let all : length lines ≡ length (lines_of set (imports_at set.spaces c)) + length (lines_of set (all_imports_from (suc c) (drop (suc c) set.spaces))) = ap length (rest ∙ from_here set c s there) ∙ length-append _ _ in
      omega (arith, all, own)

  pub own_lines : take k lines ≡ lines_of set (imports_at set.spaces c)
  own_lines = ap (take k) (rest ∙ from_here set c s there) ∙ take_front k _ _ own

  pub other_lines : drop k lines ≡ lines_of set (all_imports_from (c + 1) (drop (c + 1) set.spaces))
  other_lines =
      let next : suc c ≡ c + 1 = omega arith in
      ap (drop k) (rest ∙ from_here set c s there) ∙ drop_front k _ _ own ∙ ap (λ n. lines_of set (all_imports_from n (drop n set.spaces))) next
