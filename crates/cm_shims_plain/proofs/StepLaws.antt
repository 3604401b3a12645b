-- Going through lists.
use Rattle.std.proofs.Common.{◌≡◌, ℕ, suc, List, [], ◌∷◌, ◌++◌, Result, Ok, Err, refl, sym}
use Rattle.cm_binary_grammar.specs.Whole.{state_after}
use Rattle.cm_shims_plain.specs.Steps.{each_numbered}

pub state_after_push : {A S : Type 0} (next : S → A → S) (s : S) (xs : List A) (x : A) → state_after next s (xs ++ x ∷ []) ≡ next (state_after next s xs) x
state_after_push next s [] x = refl
state_after_push next s (y ∷ xs) x = state_after_push next (next s y) xs x

-- One more was gone through.
pub numbered_more : {S A E F : Type 0} (fault : ℕ → E → F) (step : ℕ → S → A → Result S E) (n m : ℕ) (s t : S) (x : A) (xs all : List A) (total : Result S F) → m ≡ suc n → all ≡ x ∷ xs → step n s x ≡ Ok t → each_numbered fault step n s all ≡ total → each_numbered fault step m t xs ≡ total
numbered_more fault step n m s t x xs all total one p q h = let g = rw (p, q) at h in rw one g

-- The next one is at fault.
pub numbered_fails : {S A E F : Type 0} (fault : ℕ → E → F) (step : ℕ → S → A → Result S E) (n : ℕ) (s : S) (e : E) (x : A) (xs all : List A) (total : Result S F) → all ≡ x ∷ xs → step n s x ≡ Err e → each_numbered fault step n s all ≡ total → total ≡ Err (fault n e)
numbered_fails fault step n s e x xs all total p q h = sym (rw (p, q) at h)
