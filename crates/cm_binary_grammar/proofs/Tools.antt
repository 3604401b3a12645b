-- Small facts on results, tests and lists of bytes, used by every law.
use Rattle.std.proofs.Common.{◌≡◌, ℕ, ◌+◌, Bool, true, false, cond, List, ◌++◌, length, get_or, take, Result, Ok, Err, refl, sym, ap, ◌∙◌, append_assoc, arith, inl, inr, ◌⊎◌}
use Rattle.std.proofs.lemmas.List.{get_or-append-add, length-take, get_or-take, get_or_past}
use Rattle.std.proofs.lemmas.Bool.{cases_lt}
use Rattle.cm_binary_grammar.specs.declared.fault.Fault.{Fault}
use Rattle.cm_binary_grammar.specs.Faults.{flaw, later, and_then}
use Rattle.cm_lemmas.proofs.Lists.{IsBytes}
use Rattle.cm_lemmas.proofs.Equations.{err_is}
use Rattle.cm_lemmas.proofs.Results.{err_of, ok_of}

pub IsBytes-after : (bytes front rest : List ℕ) → bytes ≡ front ++ rest → IsBytes bytes → IsBytes rest
IsBytes-after bytes front rest e h i =
    let p : get_or bytes (length front + i) 0 ≡ get_or rest i 0 = ap (λ (b : List ℕ). get_or b (length front + i) 0) e ∙ get_or-append-add front rest i 0 in
    omega (arith, h (length front + i))

pub then_ok : {A B E : Type 0} (r : Result A E) (next : A → Result B E) (y : B) → and_then r next ≡ Ok y → (x : A) × (r ≡ Ok x) × (next x ≡ Ok y)
then_ok (Ok x) next y e = (x, refl, e)
then_ok (Err d) next y e = absurd cc

pub then_err : {A B E : Type 0} (r : Result A E) (next : A → Result B E) (f : E) → and_then r next ≡ Err f → (r ≡ Err f) ⊎ ((x : A) × (r ≡ Ok x) × (next x ≡ Err f))
then_err (Ok x) next f e = inr (x, refl, e)
then_err {A} {B} {E} (Err d) next f e = inl (ap (λ (d : E). err_of A d) (err_is B d f e))

pub then_from_ok : {A B E : Type 0} (r : Result A E) (next : A → Result B E) (x : A) (out : Result B E) → r ≡ Ok x → next x ≡ out → and_then r next ≡ out
then_from_ok r next x out e h = rw e h

pub then_from_err : {A B E : Type 0} (r : Result A E) (next : A → Result B E) (f : E) → r ≡ Err f → and_then r next ≡ Err f
then_from_err r next f e = rw e refl

pub cond_ok : {A E : Type 0} (b : Bool) (d : E) (x y : A) → cond b (ok_of E x) (Err d) ≡ Ok y → (b ≡ true) × (x ≡ y)
cond_ok true d x y e = (refl, cc)
cond_ok false d x y e = absurd cc

pub cond_err : {A E : Type 0} (b : Bool) (d f : E) (x : A) → cond b (ok_of E x) (Err d) ≡ Err f → (b ≡ false) × (d ≡ f)
cond_err true d f x e = absurd cc
cond_err false d f x e = (refl, cc)

pub flaw-later : {R : Type 0} (left : ℕ) (reason : R) (more : ℕ) (place : ℕ) → place ≡ left + more → flaw place reason ≡ later (flaw left reason) more
flaw-later left reason more place e = rw e refl

pub later-later : {R : Type 0} (f : Fault R) (a b c : ℕ) → a + b ≡ c → later (later f a) b ≡ later f c
later-later f a b c e = let p : f.left + a + b ≡ f.left + c = omega arith in rw p refl

pub IsBytes-take : (n : ℕ) (bytes : List ℕ) → IsBytes bytes → IsBytes (take n bytes)
IsBytes-take n bytes h i =
    elim (cases_lt i n) [
      | inl lt ↦ rw (get_or-take n bytes i 0 lt) (h i)
      | inr le ↦ rw (get_or_past (take n bytes) i 0 (omega (arith, length-take n bytes))) (omega arith)
    ]

-- Two parts and what is behind both.
pub parts_behind : (bytes front rest second behind : List ℕ) → bytes ≡ front ++ rest → rest ≡ second ++ behind → bytes ≡ (front ++ second) ++ behind
parts_behind bytes front rest second behind p q = p ∙ ap (λ (r : List ℕ). front ++ r) q ∙ sym (append_assoc front second behind)

-- Two parts, and more.
pub parts_more : (bytes front rest more : List ℕ) → bytes ≡ front ++ rest → bytes ++ more ≡ front ++ (rest ++ more)
parts_more bytes front rest more p = ap (λ (b : List ℕ). b ++ more) p ∙ append_assoc front rest more
