-- The laws of a grammar of all of some bytes, and of each step between the two kinds.
use Rattle.std.proofs.Common.{◌≡◌, ℕ, suc, ◌<◌, ◌≤◌, List, [], ◌∷◌, ◌++◌, length, Result, Ok, Err, refl, sym, ap, subst, ◌∙◌, arith, inl, inr}
use Rattle.std.proofs.lemmas.List.{append-nil, length-append}
use Rattle.cm_binary_grammar.specs.declared.fault.Fault.{Fault}
use Rattle.cm_binary_grammar.specs.declared.fault.End.{End}
use Rattle.cm_binary_grammar.specs.declared.fault.End.TheVariants as end
use Rattle.cm_binary_grammar.specs.Faults.{flaw, later, and_then}
use Rattle.cm_binary_grammar.specs.Grammar.{Grammar}
use Rattle.cm_binary_grammar.specs.Whole.{Whole, build, remainder, exactly_ends, exactly, join}
use Rattle.cm_binary_grammar.proofs.Tools.{IsBytes-after, then_ok, then_err, then_from_ok, then_from_err, flaw-later}
use Rattle.cm_binary_grammar.proofs.Laws.{Stays, Lawful, ok_stays}
use Rattle.cm_lemmas.proofs.Lists.{IsBytes}
use Rattle.cm_lemmas.proofs.Equations.{err_is, ok_is}
use Rattle.cm_lemmas.proofs.Results.{err_of, ok_of}

pub record LawfulWhole {R A : Type 0} (w : Whole R A) : Type 0 where
  pub takes : (e : End R) (bytes : List ℕ) (x : A) → IsBytes bytes → w.reads e bytes ≡ Ok x → w.Spells x bytes
  pub again : (e : End R) (x : A) (bytes : List ℕ) → w.Spells x bytes → w.reads e bytes ≡ Ok x
  pub faulty : (e : End R) (bytes : List ℕ) (f : Fault R) → IsBytes bytes → w.reads e bytes ≡ Err f → w.Faulty e bytes f
  pub faulty_again : (e : End R) (bytes : List ℕ) (f : Fault R) → w.Faulty e bytes f → w.reads e bytes ≡ Err f
  pub within : (e : End R) (bytes : List ℕ) (f : Fault R) → IsBytes bytes → w.reads e bytes ≡ Err f → f.left ≤ length bytes
  pub stays : (r : R) (bytes : List ℕ) (f : Fault R) → IsBytes bytes → w.reads (end.Cut r) bytes ≡ Err f → Stays w.reads r bytes f

-- ---- made, remainder

pub remainder_lawful : {R : Type 0} → LawfulWhole (remainder {R = R})
remainder_lawful {R} = record {
  takes = λ e bytes x fits h. sym (ok_is (Fault R) bytes x h);
  again = λ e x bytes s. rw s refl;
  faulty = λ e bytes f fits h. absurd cc;
  faulty_again = λ e bytes f h. absurd h;
  within = λ e bytes f fits h. absurd cc;
  stays = λ r bytes f fits h. absurd cc;
}

build_err : {R A B : Type 0} (make : A → B) (t : Result A (Fault R)) (f : Fault R) → and_then t (λ x. ok_of (Fault R) (make x)) ≡ Err f → t ≡ Err f
build_err make (Ok x) f h = absurd cc
build_err {R} {A} {B} make (Err d) f h = ap (λ (g : Fault R). err_of A g) (err_is B d f h)

pub build_lawful : {R A B : Type 0} (make : A → B) (w : Whole R A) → LawfulWhole w → LawfulWhole (build make w)
build_lawful {R} {A} {B} make w l = record {
  takes = λ e bytes y fits h.
      let q = then_ok (w.reads e bytes) (λ (x : A). Ok (make x)) y h in
      (q.0, l.takes e bytes q.0 fits q.1, sym (ok_is (Fault R) (make q.0) y q.2));
  again = λ e y bytes s. rw (l.again e s.0 bytes s.1, s.2) refl;
  faulty = λ e bytes f fits h. l.faulty e bytes f fits (build_err make (w.reads e bytes) f h);
  faulty_again = λ e bytes f h. rw (l.faulty_again e bytes f h) refl;
  within = λ e bytes f fits h. l.within e bytes f fits (build_err make (w.reads e bytes) f h);
  stays = λ r bytes f fits h.
      elim (l.stays r bytes f fits (build_err make (w.reads (end.Cut r) bytes) f h)) [
        | inl k ↦ inl k
        | inr k ↦ inr (λ e more. rw (k e more) refl)
      ];
}

-- ---- one thing and no byte after it

ends_ok : {R A : Type 0} (surplus : R) (x : A × List ℕ) (y : A) → exactly_ends surplus x ≡ Ok y → (x.0 ≡ y) × (x.1 ≡ [])
ends_ok {R} surplus (x, []) y h = (ok_is (Fault R) x y h, refl)
ends_ok surplus (x, b ∷ rest) y h = absurd cc

ends_err : {R A : Type 0} (surplus : R) (x : A × List ℕ) (f : Fault R) → exactly_ends surplus x ≡ Err f → (0 < length x.1) × (f ≡ flaw (length x.1) surplus)
ends_err surplus (x, []) f h = absurd cc
ends_err {R} {A} surplus (x, b ∷ rest) f h = (omega arith, sym (err_is A (flaw (suc (length rest)) surplus) f h))

pub ends_fails : {R A : Type 0} (surplus : R) (x : A) (rest : List ℕ) → 0 < length rest → exactly_ends surplus (x, rest) ≡ Err (flaw (length rest) surplus)
ends_fails surplus x [] h = absurd (omega arith)
ends_fails surplus x (b ∷ rest) h = refl

surplus_stays : {R A : Type 0} (surplus : R) (x : A) (rest more : List ℕ) (f : Fault R) → 0 < length rest → f ≡ flaw (length rest) surplus → exactly_ends surplus (x, rest ++ more) ≡ Err (later f (length more))
surplus_stays {R} {A} surplus x rest more f some p =
    let len = length-append rest more in
    rw (p) (ends_fails surplus x (rest ++ more) (omega (arith, len)) ∙ ap (λ (g : Fault R). err_of A g) (flaw-later (length rest) surplus (length more) (length (rest ++ more)) len))

after_length : (bytes front rest : List ℕ) → bytes ≡ front ++ rest → length rest ≤ length bytes
after_length bytes front rest e = omega (arith, simp length-append at (ap length e))

pub exactly_lawful : {R A : Type 0} (surplus : R) (g : Grammar R A) → Lawful g → LawfulWhole (exactly surplus g)
exactly_lawful {R} {A} surplus g l = record {
  takes = λ e bytes y fits h.
      let q = then_ok (g.reads e bytes) (exactly_ends surplus) y h in
      let p = ends_ok surplus q.0 y q.2 in
      let t = l.takes e bytes q.0.0 q.0.1 fits q.1 in
      let all : bytes ≡ t.front = t.parts ∙ ap (λ (r : List ℕ). t.front ++ r) p.1 ∙ append-nil t.front in
      subst (λ (b : List ℕ). g.Spells y b) (sym all) (subst (λ (x : A). g.Spells x t.front) p.0 t.spells);
  again = λ e x bytes s.
      let k : g.reads e bytes ≡ Ok (x, []) = ap (g.reads e) (sym (append-nil bytes)) ∙ l.again e x bytes [] s in
      rw k refl;
  faulty = λ e bytes f fits h.
      elim (then_err (g.reads e bytes) (exactly_ends surplus) f h) [
        | inl q ↦ inl (l.faulty e bytes f fits q)
        | inr q ↦
            let p = ends_err surplus q.0 f q.2 in
            let t = l.takes e bytes q.0.0 q.0.1 fits q.1 in
            inr (q.0.0, t.front, q.0.1, t.spells, t.parts, p.0, p.1)
      ];
  faulty_again = λ e bytes f h.
      elim h [
        | inl k ↦ then_from_err (g.reads e bytes) (exactly_ends surplus) f (l.faulty_again e bytes f k)
        | inr k ↦ rw (k.6, k.4, l.again e k.0 k.1 k.2 k.3) (ends_fails surplus k.0 k.2 k.5)
      ];
  within = λ e bytes f fits h.
      elim (then_err (g.reads e bytes) (exactly_ends surplus) f h) [
        | inl q ↦ l.within e bytes f fits q
        | inr q ↦
            let p = ends_err surplus q.0 f q.2 in
            let t = l.takes e bytes q.0.0 q.0.1 fits q.1 in
            rw (p.1) (after_length bytes t.front q.0.1 t.parts)
      ];
  stays = λ r bytes f fits h.
      elim (then_err (g.reads (end.Cut r) bytes) (exactly_ends surplus) f h) [
        | inl q ↦
            elim (l.stays r bytes f fits q) [
              | inl k ↦ inl k
              | inr k ↦ inr (λ e more. then_from_err (g.reads e (bytes ++ more)) (exactly_ends surplus) (later f (length more)) (k e more))
            ]
        | inr q ↦
            let p = ends_err surplus q.0 f q.2 in
            inr (λ e more. then_from_ok (g.reads e (bytes ++ more)) (exactly_ends surplus) (q.0.0, q.0.1 ++ more) (err_of A (later f (length more))) (ok_stays g l (end.Cut r) e bytes q.0.0 q.0.1 more fits q.1) (surplus_stays surplus q.0.0 q.0.1 more f p.0 p.1))
      ];
}

-- ---- one thing, and all the rest

pub join_lawful : {R A B : Type 0} (g : Grammar R A) (next : A → Whole R B) → Lawful g → ((x : A) → LawfulWhole (next x)) → LawfulWhole (join g next)
join_lawful {R} {A} {B} g next l m = record {
  takes = λ e bytes y fits h.
      let q = then_ok (g.reads e bytes) (λ (x : A × List ℕ). (next x.0).reads e x.1) y h in
      let t = l.takes e bytes q.0.0 q.0.1 fits q.1 in
      (q.0.0, t.front, q.0.1, t.spells, (m q.0.0).takes e q.0.1 y (IsBytes-after bytes t.front q.0.1 t.parts fits) q.2, t.parts);
  again = λ e y bytes s. rw (s.5, l.again e s.0 s.1 s.2 s.3) ((m s.0).again e y s.2 s.4);
  faulty = λ e bytes f fits h.
      elim (then_err (g.reads e bytes) (λ (x : A × List ℕ). (next x.0).reads e x.1) f h) [
        | inl q ↦ inl (l.faulty e bytes f fits q)
        | inr q ↦
            let t = l.takes e bytes q.0.0 q.0.1 fits q.1 in
            inr (q.0.0, t.front, q.0.1, t.spells, t.parts, (m q.0.0).faulty e q.0.1 f (IsBytes-after bytes t.front q.0.1 t.parts fits) q.2)
      ];
  faulty_again = λ e bytes f h.
      elim h [
        | inl k ↦ then_from_err (g.reads e bytes) (λ (x : A × List ℕ). (next x.0).reads e x.1) f (l.faulty_again e bytes f k)
        | inr k ↦ rw (k.4, l.again e k.0 k.1 k.2 k.3) ((m k.0).faulty_again e k.2 f k.5)
      ];
  within = λ e bytes f fits h.
      elim (then_err (g.reads e bytes) (λ (x : A × List ℕ). (next x.0).reads e x.1) f h) [
        | inl q ↦ l.within e bytes f fits q
        | inr q ↦
            let t = l.takes e bytes q.0.0 q.0.1 fits q.1 in
            omega (arith, after_length bytes t.front q.0.1 t.parts, (m q.0.0).within e q.0.1 f (IsBytes-after bytes t.front q.0.1 t.parts fits) q.2)
      ];
  stays = λ r bytes f fits h.
      elim (then_err (g.reads (end.Cut r) bytes) (λ (x : A × List ℕ). (next x.0).reads (end.Cut r) x.1) f h) [
        | inl q ↦
            elim (l.stays r bytes f fits q) [
              | inl k ↦ inl k
              | inr k ↦ inr (λ e more. then_from_err (g.reads e (bytes ++ more)) (λ (x : A × List ℕ). (next x.0).reads e x.1) (later f (length more)) (k e more))
            ]
        | inr q ↦
            let t = l.takes (end.Cut r) bytes q.0.0 q.0.1 fits q.1 in
            elim ((m q.0.0).stays r q.0.1 f (IsBytes-after bytes t.front q.0.1 t.parts fits) q.2) [
              | inl k ↦ inl k
              | inr k ↦ inr (λ e more. then_from_ok (g.reads e (bytes ++ more)) (λ (x : A × List ℕ). (next x.0).reads e x.1) (q.0.0, q.0.1 ++ more) (err_of B (later f (length more))) (ok_stays g l (end.Cut r) e bytes q.0.0 q.0.1 more fits q.1) (k e more))
            ]
      ];
}
