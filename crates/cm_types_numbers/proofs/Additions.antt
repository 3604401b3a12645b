-- One more key with the next number.
use Rattle.std.proofs.Common.{◌≡◌, ℕ, ◌+◌, ◌<◌, ◌⊎◌, inl, inr, Bool, true, false, cond, Option, Some, None, refl, sym, subst, ◌∙◌, arith}
use Rattle.cm_types_numbers.specs.Tables.{IsOneToOne, KeepsNumbers}

module _ {K : Type 0} (old new : K → Option ℕ) (count : ℕ) (key : K) (same : K → Bool) (exact : (q : K) → same q ≡ true → key ≡ q) (updates : (q : K) → new q ≡ cond (same q) (Some count) (old q)) (absent : old key ≡ None) (was : IsOneToOne old count) where
  read_by : (q : K) (n : ℕ) (b : Bool) → same q ≡ b → cond b (Some count) (old q) ≡ Some n → ((key ≡ q) × (count ≡ n)) ⊎ (old q ≡ Some n)
  read_by q n true is e = inl (exact q is, cc)
  read_by q n false is e = inr e

  read : (q : K) (n : ℕ) → new q ≡ Some n → ((key ≡ q) × (count ≡ n)) ⊎ (old q ≡ Some n)
  read q n e = read_by q n (same q) refl (sym (updates q) ∙ e)

  tell : (j k : K) (n : ℕ) → ((key ≡ j) × (count ≡ n)) ⊎ (old j ≡ Some n) → ((key ≡ k) × (count ≡ n)) ⊎ (old k ≡ Some n) → j ≡ k
  tell j k n (inl x) (inl y) = sym x.0 ∙ y.0
  tell j k n (inl x) (inr y) = absurd (omega (arith, x.1, was.below k n y))
  tell j k n (inr x) (inl y) = absurd (omega (arith, y.1, was.below j n x))
  tell j k n (inr x) (inr y) = was.distinct j k n x y

  below_more : (k : K) (n : ℕ) → ((key ≡ k) × (count ≡ n)) ⊎ (old k ≡ Some n) → n < count + 1
  below_more k n (inl x) = omega (arith, x.1)
  below_more k n (inr x) = omega (arith, was.below k n x)

  pub one_to_one_more : IsOneToOne new (count + 1)
  one_to_one_more = record {
    below = λ k n e. below_more k n (read k n e);
    distinct = λ j k n x y. tell j k n (read j n x) (read k n y);
  }

  kept_by : (k : K) (n : ℕ) (b : Bool) → same k ≡ b → old k ≡ Some n → cond b (Some count) (old k) ≡ Some n
  kept_by k n true is e = absurd (let none : old k ≡ None = subst (λ (q : K). old q ≡ None) (exact k is) absent in cc)
  kept_by k n false is e = e

  pub keeps_more : KeepsNumbers old new
  keeps_more k n e = updates k ∙ kept_by k n (same k) refl e
