-- The laws of a thing that is measured, and of a number that is spelled shortest.
use Rattle.std.proofs.Common.{◌≡◌, ℕ, ◌-◌, Bool, true, false, cond, List, ◌++◌, length, Result, Ok, Err, refl, sym, ap, subst, ◌∙◌, arith, inl, inr}
use Rattle.std.proofs.lemmas.List.{length-append}
use Rattle.cm_binary_grammar.specs.declared.fault.Fault.{Fault}
use Rattle.cm_binary_grammar.specs.declared.fault.End.TheVariants as end
use Rattle.cm_binary_grammar.specs.Faults.{flaw, later}
use Rattle.cm_binary_grammar.specs.Grammar.{Grammar}
use Rattle.cm_binary_grammar.proofs.Tools.{then_ok, then_err, then_from_ok, then_from_err, cond_ok, cond_err, flaw-later}
use Rattle.cm_binary_grammar.proofs.Laws.{Lawful, Takes, ok_stays}
use Rattle.cm_lemmas.proofs.Results.{err_of, ok_of}
use Rattle.cm_bundle.specs.Grammar.{measured}

-- How many bytes stand before the rest.
taken : (bytes front rest : List ℕ) → bytes ≡ front ++ rest → length bytes - length rest ≡ length front
taken bytes front rest p = omega (arith, ap length p, length-append front rest)

-- What follows changes nothing.
still_taken : (bytes front rest more : List ℕ) → bytes ≡ front ++ rest → length (bytes ++ more) - length (rest ++ more) ≡ length front
still_taken bytes front rest more p = omega (arith, ap length p, length-append front rest, length-append bytes more, length-append rest more)

-- What a measured thing comes to.
abbrev pub outcome : {R A : Type 0} → (A → ℕ → Bool) → R → List ℕ → A × List ℕ → Result (A × List ℕ) (Fault R)
outcome test reason bytes x = cond (test x.0 (length bytes - length x.1)) (Ok x) (Err (flaw (length bytes) reason))

test_stays : {R A : Type 0} (b : Bool) (bytes more : List ℕ) (x : A) (f : Fault R) (reason : R) → b ≡ false → flaw (length bytes) reason ≡ f → cond b (ok_of (Fault R) x) (Err (flaw (length (bytes ++ more)) reason)) ≡ Err (later f (length more))
test_stays {R} {A} b bytes more x f reason p q = rw (p, ← q) (ap (λ (g : Fault R). err_of A g) (flaw-later (length bytes) reason (length more) (length (bytes ++ more)) (length-append bytes more)))

pub measured_lawful : {R A : Type 0} (test : A → ℕ → Bool) (reason : R) (g : Grammar R A) → Lawful g → Lawful (measured test reason g)
measured_lawful {R} {A} test reason g l = record {
  takes = λ e bytes y rest fits h.
      let q = then_ok (g.reads e bytes) (outcome test reason bytes) (y, rest) h in
      let c = cond_ok (test q.0.0 (length bytes - length q.0.1)) (flaw (length bytes) reason) q.0 (y, rest) q.2 in
      let t = l.takes e bytes q.0.0 q.0.1 fits q.1 in
      let passes : test q.0.0 (length t.front) ≡ true = subst (λ (n : ℕ). test q.0.0 n ≡ true) (taken bytes t.front q.0.1 t.parts) c.0 in
      subst (λ (p : A × List ℕ). Takes (measured test reason g) p.0 bytes p.1) c.1 (record { front = t.front; spells = (t.spells, passes); parts = t.parts });
  again = λ e x front rest s. rw (l.again e x front rest s.0, taken (front ++ rest) front rest refl, s.1) refl;
  faulty = λ e bytes f fits h.
      elim (then_err (g.reads e bytes) (outcome test reason bytes) f h) [
        | inl q ↦ inl (l.faulty e bytes f fits q)
        | inr q ↦
            let c = cond_err (test q.0.0 (length bytes - length q.0.1)) (flaw (length bytes) reason) f q.0 q.2 in
            let t = l.takes e bytes q.0.0 q.0.1 fits q.1 in
            let fails : test q.0.0 (length t.front) ≡ false = subst (λ (n : ℕ). test q.0.0 n ≡ false) (taken bytes t.front q.0.1 t.parts) c.0 in
            inr (q.0.0, t.front, q.0.1, t.spells, t.parts, fails, sym c.1)
      ];
  faulty_again = λ e bytes f h.
      elim h [
        | inl k ↦ then_from_err (g.reads e bytes) (outcome test reason bytes) f (l.faulty_again e bytes f k)
        | inr k ↦ rw (k.6, k.4, l.again e k.0 k.1 k.2 k.3, taken (k.1 ++ k.2) k.1 k.2 refl, k.5) refl
      ];
  within = λ e bytes f fits h.
      elim (then_err (g.reads e bytes) (outcome test reason bytes) f h) [
        | inl q ↦ l.within e bytes f fits q
        | inr q ↦ let c = cond_err (test q.0.0 (length bytes - length q.0.1)) (flaw (length bytes) reason) f q.0 q.2 in rw (← c.1) (omega arith)
      ];
  stays = λ r bytes f fits h.
      elim (then_err (g.reads (end.Cut r) bytes) (outcome test reason bytes) f h) [
        | inl q ↦
            elim (l.stays r bytes f fits q) [
              | inl k ↦ inl k
              | inr k ↦ inr (λ e more. then_from_err (g.reads e (bytes ++ more)) (outcome test reason (bytes ++ more)) (later f (length more)) (k e more))
            ]
        | inr q ↦
            let c = cond_err (test q.0.0 (length bytes - length q.0.1)) (flaw (length bytes) reason) f q.0 q.2 in
            let t = l.takes (end.Cut r) bytes q.0.0 q.0.1 fits q.1 in
            let one : length bytes - length q.0.1 ≡ length t.front = taken bytes t.front q.0.1 t.parts in
            inr (λ e more.
            let same : length (bytes ++ more) - length (q.0.1 ++ more) ≡ length bytes - length q.0.1 = still_taken bytes t.front q.0.1 more t.parts ∙ sym one in
            then_from_ok (g.reads e (bytes ++ more)) (outcome test reason (bytes ++ more)) (q.0.0, q.0.1 ++ more) (err_of (A × List ℕ) (later f (length more))) (ok_stays g l (end.Cut r) e bytes q.0.0 q.0.1 more fits q.1) (rw same (test_stays (test q.0.0 (length bytes - length q.0.1)) bytes more (q.0.0, q.0.1 ++ more) f reason c.0 c.1)))
      ];
}
