-- Numbers of a list, one by one.
use Rattle.std.proofs.Common.{◌≡◌, ℕ, zero, suc, ◌<◌, ◌≤◌, List, [], ◌∷◌, ◌++◌, length, map, take, get_or, ◌+◌, Option, Some, None, refl, ap, ◌∙◌, arith}
use Rattle.std.specs.Prelude.{slice_index, slice_index_or}
use Rattle.std.specs.List.{AllByRecursion}
use Rattle.std.proofs.Math.Seq.{take-suc}
use Rattle.cm_lemmas.proofs.Lists.{heads}

both : {A : Type 0} (x y : A) (xs ys : List A) → x ≡ y → xs ≡ ys → x ∷ xs ≡ y ∷ ys
both x y xs ys e f = ap (λ z. z ∷ xs) e ∙ ap (λ zs. y ∷ zs) f

module _ {A : Type 0} (F : A → Option ℕ) where
  pub as_many : (xs : List A) (ns : List ℕ) → map F xs ≡ map Some ns → length ns ≡ length xs
  as_many [] [] e = refl
  as_many [] (n ∷ ns) e = absurd cc
  as_many (x ∷ xs) [] e = absurd cc
  as_many (x ∷ xs) (n ∷ ns) e = ap suc (as_many xs ns (heads (F x) (Some n) (map F xs) (map Some ns) e).1)

  pub one_more : (xs : List A) (ns : List ℕ) (x : A) (n : ℕ) → map F xs ≡ map Some ns → F x ≡ Some n → map F (xs ++ x ∷ []) ≡ map Some (ns ++ n ∷ [])
  one_more [] [] x n e is = ap (λ o. o ∷ []) is
  one_more [] (m ∷ ns) x n e is = absurd cc
  one_more (y ∷ xs) [] x n e is = absurd cc
  one_more (y ∷ xs) (m ∷ ns) x n e is =
      let h = heads (F y) (Some m) (map F xs) (map Some ns) e in
      both (F y) (Some m) (map F (xs ++ x ∷ [])) (map Some (ns ++ n ∷ [])) h.0 (one_more xs ns x n h.1 is)

  -- the number at a place
  pub number_there : (xs : List A) (ns : List ℕ) (d : A) (i : ℕ) → map F xs ≡ map Some ns → i < length xs → F (slice_index_or xs i d) ≡ Some (slice_index ns i)
  number_there [] ns d i e lt = absurd (omega (arith, lt))
  number_there (x ∷ xs) [] d i e lt = absurd cc
  number_there (x ∷ xs) (n ∷ ns) d zero e lt = (heads (F x) (Some n) (map F xs) (map Some ns) e).0
  number_there (x ∷ xs) (n ∷ ns) d (suc i) e lt = number_there xs ns d i (heads (F x) (Some n) (map F xs) (map Some ns) e).1 (omega (arith, lt))

  -- the number at a place of which there is one so far
  pub number_before : (xs : List A) (k : ℕ) (ns : List ℕ) (d : A) (i : ℕ) → map F (take k xs) ≡ map Some ns → i < k → k ≤ length xs → F (slice_index_or xs i d) ≡ Some (slice_index ns i)
  number_before [] k ns d i e lt le = absurd (omega (arith, lt, le))
  number_before (x ∷ xs) zero ns d i e lt le = absurd (omega (arith, lt))
  number_before (x ∷ xs) (suc k) [] d i e lt le = absurd cc
  number_before (x ∷ xs) (suc k) (n ∷ ns) d zero e lt le = (heads (F x) (Some n) (map F (take k xs)) (map Some ns) e).0
  number_before (x ∷ xs) (suc k) (n ∷ ns) d (suc i) e lt le = number_before xs k ns d i (heads (F x) (Some n) (map F (take k xs)) (map Some ns) e).1 (omega (arith, lt)) (omega (arith, le))

  -- the numbers at places of which there are some so far
  pub numbers_before : (xs : List A) (k : ℕ) (ns : List ℕ) (d : A) (ps : List ℕ) → map F (take k xs) ≡ map Some ns → k ≤ length xs → AllByRecursion (λ p. p < k) ps
      → map F (map (λ p. slice_index_or xs p d) ps) ≡ map Some (map (slice_index ns) ps)
  numbers_before xs k ns d [] e le all = refl
  numbers_before xs k ns d (p ∷ ps) e le all =
      both (F (slice_index_or xs p d)) (Some (slice_index ns p)) (map F (map (λ p. slice_index_or xs p d) ps)) (map Some (map (slice_index ns) ps))
      (number_before xs k ns d p e all.0 le) (numbers_before xs k ns d ps e le all.1)

  pub numbers_there : (xs : List A) (ns : List ℕ) (d : A) (ps : List ℕ) → map F xs ≡ map Some ns → AllByRecursion (λ p. p < length xs) ps
      → map F (map (λ p. slice_index_or xs p d) ps) ≡ map Some (map (slice_index ns) ps)
  numbers_there xs ns d [] e all = refl
  numbers_there xs ns d (p ∷ ps) e all =
      both (F (slice_index_or xs p d)) (Some (slice_index ns p)) (map F (map (λ p. slice_index_or xs p d) ps)) (map Some (map (slice_index ns) ps))
      (number_there xs ns d p e all.0) (numbers_there xs ns d ps e all.1)

-- what has a number keeps it
pub all_carry : {A : Type 0} (F G : A → Option ℕ) → ((x : A) (n : ℕ) → F x ≡ Some n → G x ≡ Some n) → (xs : List A) (ns : List ℕ) → map F xs ≡ map Some ns → map G xs ≡ map Some ns
all_carry F G c [] ns e = e
all_carry F G c (x ∷ xs) [] e = absurd cc
all_carry F G c (x ∷ xs) (n ∷ ns) e =
    let h = heads (F x) (Some n) (map F xs) (map Some ns) e in
    both (G x) (Some n) (map G xs) (map Some ns) (c x n h.0) (all_carry F G c xs ns h.1)

-- one more of a list
pub take_more : {A : Type 0} (xs : List A) (i : ℕ) (d : A) → i < length xs → take (i + 1) xs ≡ take i xs ++ slice_index_or xs i d ∷ []
take_more xs i d lt = (let e : i + 1 ≡ suc i = omega arith in ap (λ (n : ℕ). take n xs) e) ∙ take-suc xs i d lt
