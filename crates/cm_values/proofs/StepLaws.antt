-- The laws of steps one after the other.
use Rattle.std.proofs.Common.{◌≡◌, ℕ, zero, suc, ◌<◌, List, [], ◌∷◌, ◌++◌, length, map, Option, Some, None, Result, Ok, Err, refl, sym, ap, subst, ◌∙◌, append_assoc, append-nil, arith}
use Rattle.std.proofs.lemmas.List.{map-append}
use Rattle.cm_values.specs.declared.value_fault.Fault.{Fault}
use Rattle.cm_values.specs.declared.value_fault.ReadError.{ReadError}
use Rattle.cm_values.specs.declared.value_fault.ReadError.TheVariants as errors
use Rattle.cm_values.specs.ReadFaults.{and_then, Fails}
use Rattle.cm_values.specs.Grammar.{first, Grammar, StepsSpell, with_front, after_step, steps_in, steps}
use Rattle.cm_values.specs.Exact.{Takes, Lawful, Moves}
use Rattle.cm_values.proofs.Tools.{then_ok, first-append, parts_behind}
use Rattle.cm_lemmas.proofs.Equations.{ok_is}
use Rattle.cm_lemmas.proofs.Results.{ok_of}

front_ok : {A : Type 0} (x : A) (read : Result (List A × List ℕ) Fault) (xs : List A) (rest : List ℕ) → with_front (x ∷ []) read ≡ Ok (xs, rest) → (ys : List A) × (read ≡ Ok (ys, rest)) × (xs ≡ x ∷ ys)
front_ok {A} x (Ok p) xs rest e =
    let q = ok_is Fault (x ∷ p.0, p.1) (xs, rest) e in
    (p.0, ap (λ (t : List ℕ). ok_of Fault (p.0, t)) (ap (λ (z : List A × List ℕ). z.1) q), sym (ap (λ (z : List A × List ℕ). z.0) q))
front_ok x (Err f) xs rest e = absurd cc

-- ---- what is read is spelled

abbrev StepsTake : {A : Type 0} → Grammar (Option A) → List A → List ℕ → List ℕ → Type 0
StepsTake g xs bytes rest = (front : List ℕ) × StepsSpell g xs front (first rest) × (bytes ≡ front ++ rest)

abbrev nothing : (A : Type 0) → List A
nothing A = []

after_takes : {A : Type 0} (g : Grammar (Option A)) (l : Lawful g) (turns : ℕ) (more : (bytes : List ℕ) (xs : List A) (rest : List ℕ) → steps_in g turns bytes ≡ Ok (xs, rest) → StepsTake g xs bytes rest) (bytes : List ℕ) (o : Option A) (mid : List ℕ) (xs : List A) (rest : List ℕ) → Takes g o bytes mid → after_step (steps_in g turns) o mid ≡ Ok (xs, rest) → StepsTake g xs bytes rest
after_takes {A} g l turns more bytes None mid xs rest t e =
    let q = ok_is Fault (nothing A, mid) (xs, rest) e in
    let here : mid ≡ rest = ap (λ (z : List A × List ℕ). z.1) q in
    (t.front, subst (λ (z : List A). StepsSpell g z t.front (first rest)) (ap (λ (z : List A × List ℕ). z.0) q) (subst (λ (m : List ℕ). g.Spells None t.front (first m)) here t.spells), t.parts ∙ ap (λ (z : List ℕ). t.front ++ z) here)
after_takes {A} g l turns more bytes (Some x) mid xs rest t e =
    let p = front_ok x (steps_in g turns mid) xs rest e in
    let u = more mid p.0 rest p.1 in
    let s = subst (λ n. g.Spells (Some x) t.front n) (ap first u.2 ∙ first-append u.0 rest) t.spells in
    (t.front ++ u.0, subst (λ (z : List A). StepsSpell g z (t.front ++ u.0) (first rest)) (sym p.2) (t.front, u.0, s, u.1, refl), parts_behind bytes t.front mid u.0 rest t.parts u.2)

steps_take : {A : Type 0} (g : Grammar (Option A)) → Lawful g → (turns : ℕ) (bytes : List ℕ) (xs : List A) (rest : List ℕ) → steps_in g turns bytes ≡ Ok (xs, rest) → StepsTake g xs bytes rest
unfolding steps_in
steps_take g l zero bytes xs rest e = absurd cc
steps_take {A} g l (suc turns) bytes xs rest e =
    let q = then_ok (g.reads bytes) (λ (p : Option A × List ℕ). after_step (steps_in g turns) p.0 p.1) (xs, rest) e in
    after_takes g l turns (steps_take g l turns) bytes q.0.0 q.0.1 xs rest (l.takes bytes q.0.0 q.0.1 q.1) q.2

-- ---- what is spelled is read

steps_again : {A : Type 0} (g : Grammar (Option A)) → Lawful g → Moves g → (turns : ℕ) (xs : List A) (front rest : List ℕ) → length (front ++ rest) < turns → StepsSpell g xs front (first rest) → steps_in g turns (front ++ rest) ≡ Ok (xs, rest)
unfolding steps_in
steps_again g l moves zero xs front rest lt s = absurd (omega (arith, lt))
steps_again g l moves (suc turns) [] front rest lt s = rw (l.again None front rest s) refl
steps_again g l moves (suc turns) (x ∷ xs) front rest lt s =
    let p = l.again (Some x) s.0 (s.1 ++ rest) (subst (λ n. g.Spells (Some x) s.0 n) (sym (first-append s.1 rest)) s.2) in
    let e : front ++ rest ≡ s.0 ++ (s.1 ++ rest) = ap (λ (z : List ℕ). z ++ rest) s.4 ∙ append_assoc s.0 s.1 rest in
    let less = moves (s.0 ++ (s.1 ++ rest)) x (s.1 ++ rest) p in
    let again = steps_again g l moves turns xs s.1 rest (omega (arith, less, lt, ap length e)) s.3 in
    rw (e, p, again) refl

pub steps_lawful : {A : Type 0} (g : Grammar (Option A)) → Lawful g → Moves g → Lawful (steps g)
steps_lawful g l moves = record {
  takes = λ bytes xs rest e. let t = steps_take g l (suc (length bytes)) bytes xs rest e in record { front = t.0; spells = t.1; parts = t.2 };
  again = λ xs front rest s. steps_again g l moves (suc (length (front ++ rest))) xs front rest (omega arith) s;
}

-- ---- reading steps one after the other: these were read, and the rest makes all

pub record StepsGo {A : Type 0} (g : Grammar (Option A)) (xs : List A) (rest : List ℕ) (all : Result (List A × List ℕ) Fault) : Type 0 where
  pub turns : ℕ
  pub enough : length rest < turns
  pub same : with_front xs (steps_in g turns rest) ≡ all

pub steps_begin : {A : Type 0} (g : Grammar (Option A)) (xs : List A) (bytes : List ℕ) → StepsGo g xs bytes (with_front xs ((steps g).reads bytes))
steps_begin g xs bytes = record { turns = suc (length bytes); enough = omega arith; same = refl }

turn : {A : Type 0} (g : Grammar (Option A)) (turns : ℕ) (rest : List ℕ) → length rest < turns → (fewer : ℕ) × (turns ≡ suc fewer) × (steps_in g turns rest ≡ and_then (g.reads rest) (λ p. after_step (steps_in g fewer) p.0 p.1))
unfolding steps_in
turn g zero rest lt = absurd (omega (arith, lt))
turn g (suc fewer) rest lt = (fewer, refl, refl)

pub steps_end : {A : Type 0} (g : Grammar (Option A)) (xs : List A) (rest after : List ℕ) (all : Result (List A × List ℕ) Fault) → StepsGo g xs rest all → g.reads rest ≡ Ok (None, after) → all ≡ Ok (xs, after)
steps_end g xs rest after all s e =
    let t = turn g s.turns rest s.enough in
    sym s.same ∙ (ap (with_front xs) t.2 ∙ rw e (rw (append-nil xs) refl))

pub steps_fail : {A : Type 0} (g : Grammar (Option A)) (xs : List A) (rest : List ℕ) (f : Fault) (all : Result (List A × List ℕ) Fault) → StepsGo g xs rest all → g.reads rest ≡ Err f → all ≡ Err f
steps_fail g xs rest f all s e =
    let t = turn g s.turns rest s.enough in
    sym s.same ∙ (ap (with_front xs) t.2 ∙ rw e refl)

front_front : {A : Type 0} (xs : List A) (x : A) (read : Result (List A × List ℕ) Fault) → with_front xs (with_front (x ∷ []) read) ≡ with_front (xs ++ x ∷ []) read
front_front {A} xs x (Ok p) = ap (λ (ys : List A). ok_of Fault (ys, p.1)) (sym (append_assoc xs (x ∷ []) p.0))
front_front xs x (Err f) = refl

pub steps_go_on : {A : Type 0} (g : Grammar (Option A)) → Moves g → (xs : List A) (x : A) (rest after : List ℕ) (all : Result (List A × List ℕ) Fault) → StepsGo g xs rest all → g.reads rest ≡ Ok (Some x, after) → StepsGo g (xs ++ x ∷ []) after all
steps_go_on g moves xs x rest after all s e =
    let t = turn g s.turns rest s.enough in
    record {
      turns = t.0;
      enough = omega (arith, moves rest x after e, s.enough, t.1);
      same = sym (front_front xs x (steps_in g t.0 after)) ∙ (sym (ap (with_front xs) t.2 ∙ rw e refl) ∙ s.same);
    }

-- ---- the same, where the code holds what was read behind a view

pub loop_fail : {A X : Type 0} (view : X → A) (g : Grammar (Option A)) (xs : List X) (rest : List ℕ) (e : ReadError) (all : Result (List A × List ℕ) Fault) → StepsGo g (map view xs) rest all → Fails e (g.reads rest) → Fails e all
loop_fail view g xs rest errors.Memory all s h = tt
loop_fail view g xs rest (errors.Fault f) all s h = steps_fail g (map view xs) rest f all s h

pub loop_go_on : {A X : Type 0} (view : X → A) (g : Grammar (Option A)) → Moves g → (xs : List X) (x : X) (rest after : List ℕ) (all : Result (List A × List ℕ) Fault) → StepsGo g (map view xs) rest all → g.reads rest ≡ Ok (Some (view x), after) → StepsGo g (map view (xs ++ x ∷ [])) after all
loop_go_on view g moves xs x rest after all s h = rw map-append (steps_go_on g moves (map view xs) (view x) rest after all s h)

pub loop_end : {A X : Type 0} (view : X → A) (g : Grammar (Option A)) (xs : List X) (rest after : List ℕ) (all : Result (List A × List ℕ) Fault) → StepsGo g (map view xs) rest all → g.reads rest ≡ Ok (None, after) → all ≡ Ok (map view xs, after)
loop_end view g xs rest after all s h = steps_end g (map view xs) rest after all s h
