-- Small facts on results, tokens and lists, used by every law.
use Rattle.std.proofs.Common.{◌≡◌, ◌+◌, List, [], ◌∷◌, ◌++◌, length, Result, Ok, Err, refl, sym, ap, ◌∙◌, append_assoc, arith, inl, inr, ◌⊎◌}
use Rattle.std.proofs.lemmas.List.{length-append, append_cancel_right}
use Rattle.cm_wit_tokens.specs.declared.token.Token.{Token}
use Rattle.cm_wit_tokens.specs.Faults.{Fault, and_then}
use Rattle.cm_wit_tokens.specs.Grammar.{first, first_or}
use Rattle.cm_lemmas.proofs.Equations.{err_is}
use Rattle.cm_lemmas.proofs.Results.{err_of}

pub then_ok : {A B : Type 0} (r : Result A Fault) (next : A → Result B Fault) (y : B) → and_then r next ≡ Ok y → (x : A) × (r ≡ Ok x) × (next x ≡ Ok y)
then_ok (Ok x) next y e = (x, refl, e)
then_ok (Err d) next y e = absurd cc

pub then_err : {A B : Type 0} (r : Result A Fault) (next : A → Result B Fault) (f : Fault) → and_then r next ≡ Err f → (r ≡ Err f) ⊎ ((x : A) × (r ≡ Ok x) × (next x ≡ Err f))
then_err (Ok x) next f e = inr (x, refl, e)
then_err {A} {B} (Err d) next f e = inl (ap (λ (d : Fault). err_of A d) (err_is B d f e))

pub then_from_ok : {A B : Type 0} (r : Result A Fault) (next : A → Result B Fault) (x : A) (out : Result B Fault) → r ≡ Ok x → next x ≡ out → and_then r next ≡ out
then_from_ok r next x out e h = rw e h

pub then_from_err : {A B : Type 0} (r : Result A Fault) (next : A → Result B Fault) (f : Fault) → r ≡ Err f → and_then r next ≡ Err f
then_from_err r next f e = rw e refl

pub first-append : (a b : List Token) → first (a ++ b) ≡ first_or a (first b)
first-append [] b = refl
first-append (t ∷ a) b = refl

-- what comes first does not change where the tokens from some token on do
pub first_same : (a after more : List Token) (t : Token) → first (a ++ t ∷ after) ≡ first (a ++ t ∷ more)
first_same [] after more t = refl
first_same (u ∷ a) after more t = refl

-- tokens cut at the same rest have the same front
pub same_front : (front a b rest : List Token) → front ++ rest ≡ a ++ (b ++ rest) → front ≡ a ++ b
same_front front a b rest e = append_cancel_right front (a ++ b) rest (e ∙ sym (append_assoc a b rest))

-- some tokens are not what stands behind the first of them
pub not_behind : (u : Token) (front rest : List Token) → u ∷ (front ++ rest) ≡ rest → ⊥
not_behind u front rest e = omega (arith, ap length e, length-append front rest)

-- two parts and what is behind both
pub parts_behind : (ts front rest second behind : List Token) → ts ≡ front ++ rest → rest ≡ second ++ behind → ts ≡ (front ++ second) ++ behind
parts_behind ts front rest second behind p q = p ∙ ap (λ (r : List Token). front ++ r) q ∙ sym (append_assoc front second behind)

pub length_behind : (ts front rest : List Token) → ts ≡ front ++ rest → length ts ≡ length front + length rest
length_behind ts front rest e = ap length e ∙ length-append front rest
