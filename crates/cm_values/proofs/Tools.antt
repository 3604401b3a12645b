-- Small facts on results and lists, used by every law.
use Rattle.std.proofs.Common.{◌≡◌, ℕ, ◌+◌, Bool, true, false, if◌then◌else◌, List, [], ◌∷◌, ◌++◌, length, Result, Ok, Err, refl, sym, ap, ◌∙◌, append_assoc, inl, inr, ◌⊎◌}
use Rattle.std.proofs.lemmas.List.{length-append}
use Rattle.cm_values.specs.declared.value_fault.Fault.{Fault}
use Rattle.cm_values.specs.ReadFaults.{and_then}
use Rattle.cm_values.specs.Grammar.{first, first_or}

pub then_ok : {A B : Type 0} (r : Result A Fault) (next : A → Result B Fault) (y : B) → and_then r next ≡ Ok y → (x : A) × (r ≡ Ok x) × (next x ≡ Ok y)
then_ok (Ok x) next y e = (x, refl, e)
then_ok (Err d) next y e = absurd cc

pub if_ok : {A : Type 0} (b : Bool) (x y : Result A Fault) (z : Result A Fault) → (if b then x else y) ≡ z → ((b ≡ true) × (x ≡ z)) ⊎ ((b ≡ false) × (y ≡ z))
if_ok true x y z e = inl (refl, e)
if_ok false x y z e = inr (refl, e)

pub first-append : (a b : List ℕ) → first (a ++ b) ≡ first_or a (first b)
first-append [] b = refl
first-append (t ∷ a) b = refl

-- two parts and what is behind both
pub parts_behind : (bytes front rest second behind : List ℕ) → bytes ≡ front ++ rest → rest ≡ second ++ behind → bytes ≡ (front ++ second) ++ behind
parts_behind bytes front rest second behind p q = p ∙ ap (λ (r : List ℕ). front ++ r) q ∙ sym (append_assoc front second behind)

pub length_behind : (bytes front rest : List ℕ) → bytes ≡ front ++ rest → length bytes ≡ length front + length rest
length_behind bytes front rest e = ap length e ∙ length-append front rest
