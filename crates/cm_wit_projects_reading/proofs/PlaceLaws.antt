-- The laws of things with their places, and of what takes a token at least.
use Rattle.std.proofs.Common.{◌≡◌, ℕ, List, ◌++◌, ◌∷◌, length, Result, Ok, refl, sym, ap, subst, ◌∙◌, arith, inl, inr}
use Rattle.cm_wit_tokens.specs.declared.token.Token.{Token}
use Rattle.cm_wit_tokens.specs.Exact.{Lawful, Shortens}
use Rattle.cm_wit_tokens.specs.Faults.{Fault, flaw}
use Rattle.cm_wit_tokens.specs.Grammar.{first, first_or, Grammar, ◌>>=◌}
use Rattle.cm_wit_tokens.proofs.ListLaws.{no_longer}
use Rattle.cm_wit_tokens.proofs.Tools.{then_ok, then_err, then_from_err, first-append}
use Rattle.cm_lemmas.proofs.Equations.{ok_is}
use Rattle.cm_lemmas.proofs.Results.{err_of, ok_of}
use Rattle.cm_wit_projects_reading.specs.LeftOut.{left_of, placed}

pub ok_no_err : {B E : Type 0} (x : B) (f : E) → ok_of E x ≡ err_of B f → ⊥
ok_no_err x f e = cc

abbrev with_place : {A : Type 0} → List Token → A × List Token → Result ((ℕ × A) × List Token) Fault
with_place ts p = Ok ((left_of (first ts), p.0), p.1)

pub placed_lawful : {A : Type 0} (g : Grammar A) → Lawful g → Lawful (placed g)
placed_lawful {A} g l = record {
  takes = λ ts y rest e.
      let q = then_ok (g.reads ts) (with_place ts) (y, rest) e in
      let t = l.takes ts q.0.0 q.0.1 q.1 in
      let k = ok_is {A = (ℕ × A) × List Token} Fault ((left_of (first ts), q.0.0), q.0.1) (y, rest) q.2 in
      let here : q.0.1 ≡ rest = ap (λ (z : (ℕ × A) × List Token). z.1) k in
      let at : left_of (first ts) ≡ left_of (first_or t.front (first rest)) = ap left_of (ap first t.parts ∙ (first-append t.front q.0.1 ∙ ap (λ (m : List Token). first_or t.front (first m)) here)) in
      let spells = subst (λ (m : List Token). g.Spells q.0.0 t.front (first m)) here t.spells in
      record {
        front = t.front;
        spells = subst (λ (z : ℕ × A). (z.0 ≡ left_of (first_or t.front (first rest))) × g.Spells z.1 t.front (first rest)) (ap (λ (z : (ℕ × A) × List Token). z.0) k) (at, spells);
        parts = t.parts ∙ ap (λ (z : List Token). t.front ++ z) here;
      };
  again = λ y front rest s. rw (l.again y.1 front rest s.1, first-append front rest, sym s.0) refl;
  within = λ ts f e.
      elim (then_err (g.reads ts) (with_place ts) f e) [
        | inl q ↦ l.within ts f q
        | inr q ↦ absurd (ok_no_err ((left_of (first ts), q.0.0), q.0.1) f q.2)
      ];
  early = λ front after t r e more.
      elim (then_err (g.reads (front ++ t ∷ after)) (with_place (front ++ t ∷ after)) (flaw (t ∷ after) r) e) [
        | inl q ↦ then_from_err (g.reads (front ++ t ∷ more)) (with_place (front ++ t ∷ more)) (flaw (t ∷ more) r) (l.early front after t r q more)
        | inr q ↦ absurd (ok_no_err ((left_of (first (front ++ t ∷ after)), q.0.0), q.0.1) (flaw (t ∷ after) r) q.2)
      ];
}

-- ---- what takes a token at least

pub placed_shortens : {A : Type 0} (g : Grammar A) → Shortens g → Shortens (placed g)
placed_shortens {A} g l ts y rest e =
    let q = then_ok (g.reads ts) (with_place ts) (y, rest) e in
    let k = ok_is {A = (ℕ × A) × List Token} Fault ((left_of (first ts), q.0.0), q.0.1) (y, rest) q.2 in
    omega (arith, l ts q.0.0 q.0.1 q.1, ap (λ (z : (ℕ × A) × List Token). length z.1) k)

pub first_shortens : {A B : Type 0} (g : Grammar A) (h : A → Grammar B) → Shortens g → ((x : A) → Lawful (h x)) → Shortens (g >>= h)
first_shortens {A} g h s l ts y rest e =
    let q = then_ok (g.reads ts) (λ (p : A × List Token). (h p.0).reads p.1) (y, rest) e in
    omega (arith, s ts q.0.0 q.0.1 q.1, no_longer (h q.0.0) (l q.0.0) q.0.1 y rest q.2)

pub later_shortens : {A B : Type 0} (g : Grammar A) (h : A → Grammar B) → Lawful g → ((x : A) → Shortens (h x)) → Shortens (g >>= h)
later_shortens {A} g h l s ts y rest e =
    let q = then_ok (g.reads ts) (λ (p : A × List Token). (h p.0).reads p.1) (y, rest) e in
    omega (arith, no_longer g l ts q.0.0 q.0.1 q.1, s q.0.0 q.0.1 y rest q.2)
