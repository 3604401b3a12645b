-- The laws of steps one after the other.
use Rattle.std.proofs.Common.{◌≡◌, ℕ, zero, suc, ◌<◌, List, [], ◌∷◌, ◌++◌, length, Option, Some, None, Result, Ok, Err, refl, sym, ap, subst, ◌∙◌, append_assoc, arith, inl, inr}
use Rattle.cm_wit_tokens.specs.declared.token.Token.{Token}
use Rattle.cm_wit_tokens.specs.declared.fault.WitReason.{WitReason}
use Rattle.cm_wit_tokens.specs.declared.fault.WitReason.TheVariants as reason
use Rattle.cm_wit_tokens.specs.Faults.{Fault, flaw}
use Rattle.cm_wit_tokens.specs.Grammar.{first, Grammar, StepsSpell, with_front, after_step, steps_in, steps}
use Rattle.cm_wit_tokens.proofs.Tools.{then_ok, then_err, then_from_err, first-append, first_same, same_front, parts_behind}
use Rattle.cm_wit_tokens.proofs.Laws.{Takes, IsRest, Lawful}
use Rattle.cm_lemmas.proofs.Equations.{err_is, ok_is}
use Rattle.cm_lemmas.proofs.Results.{err_of, ok_of}

-- Each step that gives a value takes a token.
abbrev pub Moves : {A : Type 0} → Grammar (Option A) → Type 0
Moves g = (ts : List Token) (x : _) (rest : List Token) → g.reads ts ≡ Ok (Some x, rest) → length rest < length ts

front_ok : {A : Type 0} (x : A) (read : Result (List A × List Token) Fault) (xs : List A) (rest : List Token) → with_front (x ∷ []) read ≡ Ok (xs, rest) → (ys : List A) × (read ≡ Ok (ys, rest)) × (xs ≡ x ∷ ys)
front_ok {A} x (Ok p) xs rest e =
    let q = ok_is Fault (x ∷ p.0, p.1) (xs, rest) e in
    (p.0, ap (λ (t : List Token). ok_of Fault (p.0, t)) (ap (λ (z : List A × List Token). z.1) q), sym (ap (λ (z : List A × List Token). z.0) q))
front_ok x (Err f) xs rest e = absurd cc

front_err : {A : Type 0} (x : A) (read : Result (List A × List Token) Fault) (f : Fault) → with_front (x ∷ []) read ≡ Err f → read ≡ Err f
front_err x (Ok p) f e = absurd cc
front_err {A} x (Err d) f e = ap (λ (d : Fault). err_of (List A × List Token) d) (err_is (List A × List Token) d f e)

-- ---- what is read is spelled

abbrev StepsTake : {A : Type 0} → Grammar (Option A) → List A → List Token → List Token → Type 0
StepsTake g xs ts rest = (front : List Token) × StepsSpell g xs front (first rest) × (ts ≡ front ++ rest)

abbrev nothing : (A : Type 0) → List A
nothing A = []

after_takes : {A : Type 0} (g : Grammar (Option A)) (l : Lawful g) (turns : ℕ) (more : (ts : List Token) (xs : List A) (rest : List Token) → steps_in g turns ts ≡ Ok (xs, rest) → StepsTake g xs ts rest) (ts : List Token) (o : Option A) (mid : List Token) (xs : List A) (rest : List Token) → Takes g o ts mid → after_step (steps_in g turns) o mid ≡ Ok (xs, rest) → StepsTake g xs ts rest
after_takes {A} g l turns more ts None mid xs rest t e =
    let q = ok_is Fault (nothing A, mid) (xs, rest) e in
    let here : mid ≡ rest = ap (λ (z : List A × List Token). z.1) q in
    (t.front, subst (λ (z : List A). StepsSpell g z t.front (first rest)) (ap (λ (z : List A × List Token). z.0) q) (subst (λ (m : List Token). g.Spells None t.front (first m)) here t.spells), t.parts ∙ ap (λ (z : List Token). t.front ++ z) here)
after_takes {A} g l turns more ts (Some x) mid xs rest t e =
    let p = front_ok x (steps_in g turns mid) xs rest e in
    let u = more mid p.0 rest p.1 in
    let s = subst (λ n. g.Spells (Some x) t.front n) (ap first u.2 ∙ first-append u.0 rest) t.spells in
    (t.front ++ u.0, subst (λ (z : List A). StepsSpell g z (t.front ++ u.0) (first rest)) (sym p.2) (t.front, u.0, s, u.1, refl), parts_behind ts t.front mid u.0 rest t.parts u.2)

steps_take : {A : Type 0} (g : Grammar (Option A)) → Lawful g → (turns : ℕ) (ts : List Token) (xs : List A) (rest : List Token) → steps_in g turns ts ≡ Ok (xs, rest) → StepsTake g xs ts rest
unfolding steps_in
steps_take g l zero ts xs rest e = absurd cc
steps_take {A} g l (suc turns) ts xs rest e =
    let q = then_ok (g.reads ts) (λ (p : Option A × List Token). after_step (steps_in g turns) p.0 p.1) (xs, rest) e in
    after_takes g l turns (steps_take g l turns) ts q.0.0 q.0.1 xs rest (l.takes ts q.0.0 q.0.1 q.1) q.2

-- ---- what is spelled is read

steps_again : {A : Type 0} (g : Grammar (Option A)) → Lawful g → Moves g → (turns : ℕ) (xs : List A) (front rest : List Token) → length (front ++ rest) < turns → StepsSpell g xs front (first rest) → steps_in g turns (front ++ rest) ≡ Ok (xs, rest)
unfolding steps_in
steps_again g l moves zero xs front rest lt s = absurd (omega (arith, lt))
steps_again g l moves (suc turns) [] front rest lt s = rw (l.again None front rest s) refl
steps_again g l moves (suc turns) (x ∷ xs) front rest lt s =
    let p = l.again (Some x) s.0 (s.1 ++ rest) (subst (λ n. g.Spells (Some x) s.0 n) (sym (first-append s.1 rest)) s.2) in
    let e : front ++ rest ≡ s.0 ++ (s.1 ++ rest) = ap (λ (z : List Token). z ++ rest) s.4 ∙ append_assoc s.0 s.1 rest in
    let less = moves (s.0 ++ (s.1 ++ rest)) x (s.1 ++ rest) p in
    let again = steps_again g l moves turns xs s.1 rest (omega (arith, less, lt, ap length e)) s.3 in
    rw (e, p, again) refl

-- ---- a fault is inside the tokens

after_within : {A : Type 0} (g : Grammar (Option A)) (turns : ℕ) → ((ts : List Token) (f : Fault) → steps_in g turns ts ≡ Err f → IsRest ts f.rest) → (ts : List Token) (o : Option A) (mid : List Token) (f : Fault) → Takes g o ts mid → after_step (steps_in g turns) o mid ≡ Err f → IsRest ts f.rest
after_within g turns more ts None mid f t e = absurd cc
after_within g turns more ts (Some x) mid f t e =
    let w = more mid f (front_err x (steps_in g turns mid) f e) in
    record { front = t.front ++ w.front; parts = parts_behind ts t.front mid w.front f.rest t.parts w.parts }

steps_within : {A : Type 0} (g : Grammar (Option A)) → Lawful g → (turns : ℕ) (ts : List Token) (f : Fault) → steps_in g turns ts ≡ Err f → IsRest ts f.rest
unfolding steps_in
steps_within {A} g l zero ts f e = record { front = []; parts = ap (λ (d : Fault). d.rest) (err_is (List A × List Token) (flaw ts reason.Unexpected) f e) }
steps_within {A} g l (suc turns) ts f e =
    elim (then_err (g.reads ts) (λ (p : Option A × List Token). after_step (steps_in g turns) p.0 p.1) f e) [
      | inl q ↦ l.within ts f q
      | inr q ↦ after_within g turns (steps_within g l turns) ts q.0.0 q.0.1 f (l.takes ts q.0.0 q.0.1 q.1) q.2
    ]

-- ---- and the same whatever follows

abbrev IsEarly : {A : Type 0} → Grammar (Option A) → ℕ → ℕ → Type 0
IsEarly {A} g turns others = (front after more : List Token) (t : Token) (r : WitReason) → length (front ++ t ∷ after) < turns → length (front ++ t ∷ more) < others → steps_in g turns (front ++ t ∷ after) ≡ Err (flaw (t ∷ after) r) → steps_in g others (front ++ t ∷ more) ≡ Err (flaw (t ∷ more) r)

after_early : {A : Type 0} (g : Grammar (Option A)) → Lawful g → Moves g → (turns others : ℕ) → IsEarly g turns others → (front after more : List Token) (t : Token) (r : WitReason) (o : Option A) (mid : List Token) → length (front ++ t ∷ after) < suc turns → length (front ++ t ∷ more) < suc others → g.reads (front ++ t ∷ after) ≡ Ok (o, mid) → after_step (steps_in g turns) o mid ≡ Err (flaw (t ∷ after) r) → (w : List Token) × (mid ≡ w ++ t ∷ after) × (front2 : List Token) × (front ≡ front2 ++ w) × (g.reads (front2 ++ (w ++ t ∷ more)) ≡ Ok (o, w ++ t ∷ more)) × (after_step (steps_in g others) o (w ++ t ∷ more) ≡ Err (flaw (t ∷ more) r))
after_early g l moves turns others ih front after more t r None mid lt lt2 e h = absurd cc
after_early {A} g l moves turns others ih front after more t r (Some x) mid lt lt2 e h =
    let k = l.takes (front ++ t ∷ after) (Some x) mid e in
    let fails = front_err x (steps_in g turns mid) (flaw (t ∷ after) r) h in
    let w = steps_within g l turns mid (flaw (t ∷ after) r) fails in
    let s = same_front front k.front w.front (t ∷ after) (k.parts ∙ ap (λ (z : List Token). k.front ++ z) w.parts) in
    let here : first mid ≡ first (w.front ++ t ∷ more) = ap first w.parts ∙ first_same w.front after more t in
    let again = l.again (Some x) k.front (w.front ++ t ∷ more) (subst (λ n. g.Spells (Some x) k.front n) here k.spells) in
    let less = moves (front ++ t ∷ after) x mid e in
    let less2 = moves (k.front ++ (w.front ++ t ∷ more)) x (w.front ++ t ∷ more) again in
    let whole : front ++ t ∷ more ≡ k.front ++ (w.front ++ t ∷ more) = ap (λ (z : List Token). z ++ t ∷ more) s ∙ append_assoc k.front w.front (t ∷ more) in
    let goes = ih w.front after more t r (omega (arith, less, lt, ap length w.parts)) (omega (arith, less2, lt2, ap length whole)) (subst (λ (z : List Token). steps_in g turns z ≡ err_of (List A × List Token) (flaw (t ∷ after) r)) w.parts fails) in
    (w.front, w.parts, k.front, s, again, rw goes refl)

steps_early : {A : Type 0} (g : Grammar (Option A)) → Lawful g → Moves g → (turns others : ℕ) → IsEarly g turns others
unfolding steps_in
steps_early g l moves zero others = λ front after more t r lt lt2 e. absurd (omega (arith, lt))
steps_early g l moves (suc turns) zero = λ front after more t r lt lt2 e. absurd (omega (arith, lt2))
steps_early {A} g l moves (suc turns) (suc others) = λ front after more t r lt lt2 e.
    elim (then_err (g.reads (front ++ t ∷ after)) (λ (p : Option A × List Token). after_step (steps_in g turns) p.0 p.1) (flaw (t ∷ after) r) e) [
      | inl q ↦ then_from_err (g.reads (front ++ t ∷ more)) (λ (p : Option A × List Token). after_step (steps_in g others) p.0 p.1) (flaw (t ∷ more) r) (l.early front after t r q more)
      | inr q ↦
          let k = after_early g l moves turns others (steps_early g l moves turns others) front after more t r q.0.0 q.0.1 lt lt2 q.1 q.2 in
          rw (k.3, append_assoc k.2 k.0 (t ∷ more), k.4) k.5
    ]

pub steps_lawful : {A : Type 0} (g : Grammar (Option A)) → Lawful g → Moves g → Lawful (steps g)
steps_lawful g l moves = record {
  takes = λ ts xs rest e. let t = steps_take g l (suc (length ts)) ts xs rest e in record { front = t.0; spells = t.1; parts = t.2 };
  again = λ xs front rest s. steps_again g l moves (suc (length (front ++ rest))) xs front rest (omega arith) s;
  within = λ ts f e. steps_within g l (suc (length ts)) ts f e;
  early = λ front after t r e more. steps_early g l moves (suc (length (front ++ t ∷ after))) (suc (length (front ++ t ∷ more))) front after more t r (omega arith) (omega arith) e;
}
