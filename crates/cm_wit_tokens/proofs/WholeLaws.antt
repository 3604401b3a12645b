-- The laws of whole texts.
use Rattle.std.proofs.Common.{◌≡◌, List, [], ◌∷◌, ◌++◌, length, Result, Ok, Err, refl, sym, ap, subst, ◌∙◌, append-nil, arith, inl, inr}
use Rattle.cm_wit_tokens.specs.declared.token.Token.{Token}
use Rattle.cm_wit_tokens.specs.Faults.{Fault, flaw}
use Rattle.cm_wit_tokens.specs.Grammar.{first, Grammar, IsText}
use Rattle.cm_wit_tokens.specs.Parts.{other_fault}
use Rattle.cm_wit_tokens.specs.Whole.{to_end, whole, CannotStand, IsRefused}
use Rattle.cm_wit_tokens.proofs.Tools.{then_ok, then_err}
use Rattle.cm_wit_tokens.proofs.Laws.{Lawful}
use Rattle.cm_lemmas.proofs.Equations.{err_is, ok_is}
use Rattle.cm_lemmas.proofs.Results.{err_of, ok_of}

end_ok : {A : Type 0} (x y : A) (rest : List Token) → to_end x rest ≡ Ok y → (rest ≡ []) × (x ≡ y)
end_ok x y [] e = (refl, ok_is Fault x y e)
end_ok x y (t ∷ rest) e = absurd cc

pub whole_is_text : {A : Type 0} (g : Grammar A) → Lawful g → (ts : List Token) (x : A) → whole g ts ≡ Ok x → IsText g x ts
whole_is_text {A} g l ts x e =
    let q = then_ok (g.reads ts) (λ (p : A × List Token). to_end p.0 p.1) x e in
    let k = end_ok q.0.0 x q.0.1 q.2 in
    let t = l.takes ts q.0.0 q.0.1 q.1 in
    let all : ts ≡ t.front = t.parts ∙ (ap (λ (z : List Token). t.front ++ z) k.0 ∙ append-nil t.front) in
    subst (λ (z : A). IsText g z ts) k.1 (subst (λ (z : List Token). IsText g q.0.0 z) (sym all) (subst (λ n. g.Spells q.0.0 t.front n) (ap first k.0) t.spells))

read_again : {A : Type 0} (g : Grammar A) → Lawful g → (ts : List Token) (x : A) → IsText g x ts → g.reads ts ≡ Ok (x, [])
read_again {A} g l ts x s = subst (λ (z : List Token). g.reads z ≡ ok_of {A = A × List Token} Fault (x, [])) (append-nil ts) (l.again x ts [] s)

pub text_is_whole : {A : Type 0} (g : Grammar A) → Lawful g → (ts : List Token) (x : A) → IsText g x ts → whole g ts ≡ Ok x
text_is_whole g l ts x s = rw (read_again g l ts x s) refl

ok_is_no_err : {B : Type 0} (r : Result B Fault) (x : B) (f : Fault) → r ≡ Ok x → r ≡ Err f → ⊥
ok_is_no_err r x f p q = absurd cc

behind_is_none : {A : Type 0} (x y : A) (t : Token) (more : List Token) (r : Result (A × List Token) Fault) → r ≡ ok_of {A = A × List Token} Fault (x, t ∷ more) → r ≡ ok_of {A = A × List Token} Fault (y, []) → ⊥
behind_is_none {A} x y t more r p q =
    let k = ok_is {A = A × List Token} Fault (x, t ∷ more) (y, []) (sym p ∙ q) in
    omega (arith, ap (λ (z : A × List Token). length z.1) k)

fault_cannot : {A : Type 0} (g : Grammar A) → Lawful g → (ts front : List Token) (f : Fault) (rest : List Token) → f.rest ≡ rest → ts ≡ front ++ rest → g.reads ts ≡ Err f → CannotStand g front rest
fault_cannot g l ts front f [] e parts h = λ x s. ok_is_no_err (g.reads ts) (x, []) f (ap g.reads (parts ∙ append-nil front) ∙ read_again g l front x s) h
fault_cannot {A} g l ts front f (t ∷ after) e parts h = λ x more s.
    let same : g.reads (front ++ t ∷ after) ≡ err_of (A × List Token) (flaw (t ∷ after) f.reason) = ap g.reads (sym parts) ∙ (h ∙ ap (λ (z : List Token). err_of (A × List Token) (flaw z f.reason)) e) in
    ok_is_no_err (g.reads (front ++ t ∷ more)) (x, []) (flaw (t ∷ more) f.reason) (read_again g l (front ++ t ∷ more) x s) (l.early front after t f.reason same more)

left_refused : {A : Type 0} (g : Grammar A) → Lawful g → (ts : List Token) (x : A) (rest : List Token) (f : Fault) → g.reads ts ≡ Ok (x, rest) → to_end x rest ≡ Err f → IsRefused g ts f.rest
left_refused g l ts x [] f e h = absurd cc
left_refused {A} g l ts x (t ∷ after) f e h =
    let k = l.takes ts x (t ∷ after) e in
    let here : t ∷ after ≡ f.rest = ap (λ (d : Fault). d.rest) (err_is A (flaw (t ∷ after) (other_fault t.form)) f h) in
    subst (λ (z : List Token). IsRefused g ts z) here (record {
      front = k.front;
      parts = k.parts;
      cannot = λ y more s. behind_is_none x y t more (g.reads (k.front ++ t ∷ more)) (l.again x k.front (t ∷ more) k.spells) (read_again g l (k.front ++ t ∷ more) y s);
    })

pub whole_refused : {A : Type 0} (g : Grammar A) → Lawful g → (ts : List Token) (f : Fault) → whole g ts ≡ Err f → IsRefused g ts f.rest
whole_refused {A} g l ts f e =
    elim (then_err (g.reads ts) (λ (p : A × List Token). to_end p.0 p.1) f e) [
      | inl q ↦ let w = l.within ts f q in record { front = w.front; parts = w.parts; cannot = fault_cannot g l ts w.front f f.rest refl w.parts q }
      | inr q ↦ left_refused g l ts q.0.0 q.0.1 f q.1 q.2
    ]
